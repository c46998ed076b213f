-- What is known of one variable of a text: what items and parameters made of it so far.
use Rattle.std.specs.Prelude.{◌==◌, ◌++◌, ℕ, List, [], ◌∷◌, Option, Some, None, Bool, true, false, is_some, map, set, slice_get, if◌then◌else◌}
use Rattle.litmus_lex.specs.declared.words.VariableType.{VariableType}
use Rattle.litmus_lex.specs.declared.words.VariableType.TheVariants.{Char, Short, Int, Long, Atomic, Lock}
use Rattle.litmus_lex.specs.Front.{◌>>=◌}
use Rattle.litmus_parse.specs.declared.declaration.Declarations.{Declarations}
use Rattle.litmus_parse.specs.declared.declaration.Declared.{Declared}

pub record Entry : Type 0 where
  -- the type that items and parameters give it
  pub type : Option VariableType
  -- the last of its values
  pub value : Option ℕ
  -- whether an item without a type names it, and whether such an item gives it a value
  pub is_untyped : Bool
  pub is_given : Bool
  pub is_parameter : Bool
  -- whether its items contradict each other where no parameter has the type
  pub is_at_odds : Bool

abbrev pub entry_of : Declared → Entry
entry_of declared = record {
  type = declared.variable_type;
  value = declared.value;
  is_untyped = declared.is_untyped;
  is_given = declared.is_given;
  is_parameter = declared.is_parameter;
  is_at_odds = is_some declared.second_type;
}

-- a variable of which only the name is known
abbrev pub fresh : Entry
fresh = record { type = None; value = None; is_untyped = false; is_given = false; is_parameter = false; is_at_odds = false }

-- an item without a type contradicts another type than int
abbrev pub odd_type : Option VariableType → Bool → Bool
odd_type None untyped = false
odd_type (Some Int) untyped = false
odd_type (Some Char) untyped = untyped
odd_type (Some Short) untyped = untyped
odd_type (Some Long) untyped = untyped
odd_type (Some Atomic) untyped = untyped
odd_type (Some Lock) untyped = untyped

abbrev pub noted : Entry → Entry
noted e = record e { is_at_odds = if e.is_at_odds then true else odd_type e.type e.is_untyped }

-- an item without a type names it
abbrev pub named_untyped : Entry → Entry
named_untyped e = noted (record e { is_untyped = true })

abbrev pub type_number : VariableType → ℕ
type_number Char = 0
type_number Short = 1
type_number Int = 2
type_number Long = 3
type_number Atomic = 4
type_number Lock = 5

abbrev pub settled_from : Option VariableType → VariableType → Entry → Option Entry
settled_from None type e = Some (record e { type = Some type })
settled_from (Some given) type e =
    if type_number given == type_number type then Some (record e { type = Some type }) else None

-- it has the type, and no other
unfoldable pub settled : VariableType → Entry → Option Entry
settled type e = settled_from e.type type e

-- an item with a type names it
unfoldable pub named_typed : VariableType → Entry → Option Entry
named_typed type e = settled type e >>= λ f. Some (noted f)

abbrev pub lock_given : VariableType → Bool → Bool
lock_given Lock given = given
lock_given _ given = false

-- a parameter names it; a lock has no value
unfoldable pub named_parameter : VariableType → Entry → Option Entry
named_parameter type e =
    settled type e >>= λ f. if lock_given type f.is_given then None else Some (record f { is_parameter = true })

-- an item gives it a value
abbrev pub given : (value : ℕ) → (typed : Bool) → Entry → Entry
given value typed e = record e { value = Some value; is_given = if typed then e.is_given else true }

abbrev pub valued : (value : ℕ) → (typed : Bool) → Entry → Option Entry
valued value typed e = Some (given value typed e)

-- whether it has two types, now that all parameters are known
abbrev pub has_two_types : Entry → Bool
has_two_types e = if e.is_parameter then false else e.is_at_odds

-- an item names it, with a type or without
abbrev pub named_item : Option VariableType → Entry → Option Entry
named_item None e = Some (named_untyped e)
named_item (Some type) e = named_typed type e

-- a variable that appears first has an entry behind the others
abbrev pub grown : List Entry → Option ℕ → List Entry
grown table None = table ++ fresh ∷ []
grown table (Some number) = table

-- what is known of all variables, each at its number
abbrev pub table_of : Declarations → List Entry
table_of declarations = map entry_of declarations.variables.items

abbrev pub changed_from : (Entry → Option Entry) → List Entry → ℕ → Option Entry → Option (List Entry)
changed_from change table number None = Some table
changed_from change table number (Some e) = change e >>= λ f. Some (set table number f)

-- one entry is changed, if the number is there
unfoldable pub changed : (Entry → Option Entry) → List Entry → ℕ → Option (List Entry)
changed change table number = changed_from change table number (slice_get table number)
