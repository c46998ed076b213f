-- Reading items of the initialization block: what the parser's functions answer, apart from which refusal it is.
use Rattle.std.specs.Prelude.{ℕ, suc, List, [], Option, Some, None, is_some, length, if◌then◌else◌}
use Rattle.litmus_lex.specs.declared.sign.Sign.TheVariants.{OpenBrace, CloseBrace, Semicolon, Assign}
use Rattle.litmus_lex.specs.declared.words.VariableType.{VariableType}
use Rattle.litmus_lex.specs.Front.{◌>>=◌, first, identifier_at, is_sign, others, symbols_left, take_sign}
use Rattle.litmus_lex.specs.Words.{Symbol}
use Rattle.litmus_expression.specs.NameReader.{index_of}
use Rattle.litmus_expression.specs.Names.{Names}
use Rattle.litmus_parse.specs.declared.initialization.Header.{Header}
use Rattle.litmus_parse.specs.Entries.{Entry, changed, grown, named_item, table_of, valued}
use Rattle.litmus_parse.specs.HeaderReader.{behind_type, type_at, value_at}
use Rattle.litmus_parse.specs.Turns.{Turn, again, done, going}
use Rattle.litmus_parse.specs.VariableReader.{is_lock_type, names_of, number_at}

-- what stands before the bodies: what is left, and what is known of variables
pub record Heading : Type 0 where
  pub symbols : List Symbol
  pub names : Names
  pub table : List Entry

abbrev pub heading_of : Header → Heading
heading_of header = record {
  symbols = symbols_left header.cursor;
  names = names_of header.declarations;
  table = table_of header.declarations;
}

abbrev pub named_in : Heading → Option (List ℕ) → Option (ℕ × Heading)
named_in h None = None
named_in h (Some name) =
    number_at h.names name >>= λ n. Some (n.0, record h { names = n.1; table = grown h.table (index_of h.names name) })

-- a name that is no word is next, and gets a number if it has none
unfoldable pub variable_in : Heading → Option (ℕ × Heading)
variable_in h = named_in h (identifier_at (first h.symbols))

-- an item names the variable
unfoldable pub noted_in : Option VariableType → (number : ℕ) → Heading → Option Heading
noted_in type number h = changed (named_item type) h.table number >>= λ table. Some (record h { table = table })

-- the name is taken
abbrev pub behind_name : Heading → Heading
behind_name h = record h { symbols = others h.symbols }

-- `= value` of an item, or nothing. A lock has no value
unfoldable pub given_in : Option VariableType → (number : ℕ) → Heading → Option Heading
given_in type number h =
    if is_sign Assign (first h.symbols)
    then (if is_lock_type type
    then None
    else (value_at (others h.symbols) >>= λ v. changed (valued v.0 (is_some type)) h.table number >>= λ table.
    Some (record h { symbols = v.1; table = table })))
    else Some h

-- behind a type, or where none stands
abbrev pub item_of : Option VariableType → Heading → Option Heading
item_of type h = variable_in h >>= λ v. noted_in type v.0 v.1 >>= λ u. given_in type v.0 (behind_name u)

-- `[vtype] NAME [= value]`
unfoldable pub item_at : Heading → Option Heading
item_at h = item_of (type_at (first h.symbols)) (record h { symbols = behind_type (type_at (first h.symbols)) h.symbols })

-- the symbol that is next is taken
abbrev pub past : Heading → Heading
past h = record h { symbols = others h.symbols }

-- what follows an item: `;` and maybe more, or the `}`
abbrev pub behind_item : Heading → Option (Turn Heading Heading)
behind_item h =
    if is_sign Semicolon (first h.symbols)
    then Some (again (past h))
    else (take_sign CloseBrace h.symbols >>= λ symbols. Some (done (record h { symbols = symbols })))

abbrev pub items_by : Heading → Option (Turn Heading Heading)
items_by h = if is_sign CloseBrace (first h.symbols) then Some (done (past h)) else (item_at h >>= λ u. behind_item u)

-- items joined by `;`, with a last `;` or none, and the `}`
unfoldable pub items_at : Heading → Option Heading
items_at h = going items_by (suc (length h.symbols)) h

-- the initialization block
unfoldable pub initialization_at : Heading → Option Heading
initialization_at h = take_sign OpenBrace h.symbols >>= λ symbols. items_at (record h { symbols = symbols })

-- where nothing is known of any variable
abbrev pub unnamed : List Symbol → Heading
unnamed symbols = record { symbols = symbols; names = []; table = [] }
