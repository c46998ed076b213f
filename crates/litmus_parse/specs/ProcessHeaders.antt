-- The grammar of the initialization block and of the parameters of processes. Each relation is between symbols, what
-- they spell at their front, and the symbols left behind it.
use Rattle.std.specs.Prelude.{◌-◌, ◌%◌, ◌^◌, ℕ, List, [], ◌∷◌, Some, None, Contains, map}
use Rattle.litmus_lex.specs.declared.sign.Sign.TheVariants.{CloseBrace, OpenParen, CloseParen, Semicolon, Comma, Assign, Minus, Star}
use Rattle.litmus_syntax.specs.Tree as tree
use Rattle.litmus_lex.specs.declared.words.VariableType.{VariableType}
use Rattle.litmus_lex.specs.declared.words.Word.TheVariants as words
use Rattle.litmus_lex.specs.Words.{Symbol, word, identifier, number, sign}
use Rattle.litmus_syntax.specs.Limits.{variables_limit}
use Rattle.litmus_expression.specs.Names.{Names, Numbered, Parameter}
use Rattle.litmus_parse.specs.Mentions.{Mention, item, parameter}

-- [-] NUMBER, modulo 2^64
pub data Signed : List Symbol → ℕ → List Symbol → Type 0 where
  positive : {value : ℕ} {rest : List Symbol} → Signed (number value ∷ rest) value rest
  negative : {value : ℕ} {rest : List Symbol} → Signed (sign Minus ∷ number value ∷ rest) ((2 ^ 64 - value) % 2 ^ 64) rest

-- an initial value
pub data Value : List Symbol → ℕ → List Symbol → Type 0 where
  plain : {value : ℕ} {symbols rest : List Symbol} → Signed symbols value rest → Value symbols value rest
  in_atomic_init : {value : ℕ} {symbols rest : List Symbol}
      → Signed symbols value (sign CloseParen ∷ rest)
      → Value (word words.AtomicInit ∷ sign OpenParen ∷ symbols) value rest

-- [vtype] NAME [= value]
pub data Item : List Symbol → Mention → List Symbol → Type 0 where
  bare : {name : List ℕ} {rest : List Symbol} → Item (identifier name ∷ rest) (record { name = name; said = item None None }) rest
  given : {name : List ℕ} {value : ℕ} {symbols rest : List Symbol}
      → Value symbols value rest
      → Item (identifier name ∷ sign Assign ∷ symbols) (record { name = name; said = item None (Some value) }) rest
  typed : {type : VariableType} {name : List ℕ} {rest : List Symbol}
      → Item (word (words.Type type) ∷ identifier name ∷ rest) (record { name = name; said = item (Some type) None }) rest
  typed_given : {type : VariableType} {name : List ℕ} {value : ℕ} {symbols rest : List Symbol}
      → Value symbols value rest
      → Item (word (words.Type type) ∷ identifier name ∷ sign Assign ∷ symbols) (record { name = name; said = item (Some type) (Some value) }) rest

-- items joined by `;`, with a last `;` or none, up to the `}`
pub data Items : List Symbol → List Mention → List Symbol → Type 0 where
  none : {rest : List Symbol} → Items (sign CloseBrace ∷ rest) [] rest
  last : {mention : Mention} {symbols rest : List Symbol}
      → Item symbols mention (sign CloseBrace ∷ rest)
      → Items symbols (mention ∷ []) rest
  more : {mention : Mention} {mentions : List Mention} {symbols middle rest : List Symbol}
      → Item symbols mention (sign Semicolon ∷ middle)
      → Items middle mentions rest
      → Items symbols (mention ∷ mentions) rest

-- the parameter that a name with a type is
abbrev pub parameter_of : List ℕ → ℕ → VariableType → Parameter
parameter_of name variable type = record { name = name; variable = variable; type = type }

-- what a parameter says of its variable
abbrev pub mention_of : Parameter → Mention
mention_of p = record { name = p.name; said = parameter p.type }

-- the name of a parameter
abbrev pub name_of : Parameter → List ℕ
name_of p = p.name

-- one parameter and more, joined by `,`, up to the `)`. No name stands twice
pub data Listed : (before : Names) → List Symbol → List Parameter → List Symbol → (after : Names) → Type 0 where
  last : {before after : Names} {type : VariableType} {name : List ℕ} {variable : ℕ} {rest : List Symbol}
      → Numbered variables_limit before name variable after
      → Listed before (word (words.Type type) ∷ sign Star ∷ identifier name ∷ sign CloseParen ∷ rest) (parameter_of name variable type ∷ []) rest after
  more : {before between after : Names} {type : VariableType} {name : List ℕ} {variable : ℕ} {parameters : List Parameter} {symbols rest : List Symbol}
      → Numbered variables_limit before name variable between
      → Listed between symbols parameters rest after
      → ¬ Contains (map name_of parameters) name
      → Listed before (word (words.Type type) ∷ sign Star ∷ identifier name ∷ sign Comma ∷ symbols) (parameter_of name variable type ∷ parameters) rest after

-- the parameters of a process, up to the `)`
pub data Parameters : (before : Names) → List Symbol → List Parameter → List Symbol → (after : Names) → Type 0 where
  none : {before : Names} {rest : List Symbol} → Parameters before (sign CloseParen ∷ rest) [] rest before
  some : {before after : Names} {parameters : List Parameter} {symbols rest : List Symbol}
      → Listed before symbols parameters rest after
      → Parameters before symbols parameters rest after

-- a process that is read: its parameters, the registers that its body names, and its body
pub record Process : Type 0 where
  pub parameters : List Parameter
  pub registers : Names
  pub body : tree.Block
