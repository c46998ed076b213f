-- What items and parameters say of variables.
use Rattle.std.specs.Prelude.{◌≡◌, ◌≢◌, ◌⊎◌, ◌%◌, ◌^◌, ℕ, List, [], ◌∷◌, Option, Some, None, Contains, cond}
use Rattle.std.specs.Int.{w8, w16, w32, w64, cast_signed}
use Rattle.litmus_syntax.specs.declared.program.Contents.{Contents}
use Rattle.litmus_syntax.specs.declared.program.Contents.TheVariants as contents
use Rattle.litmus_syntax.specs.declared.program.Variable.{Variable}
use Rattle.litmus_lex.specs.declared.words.VariableType.{VariableType}
use Rattle.litmus_lex.specs.declared.words.VariableType.TheVariants.{Char, Short, Int, Long, Atomic, Lock}
use Rattle.litmus_lex.specs.Words.{is_same}
use Rattle.litmus_syntax.specs.Limits.{variables_limit}
use Rattle.litmus_expression.specs.Names.{Names, Numbered}

-- an item with or without a type and a value, which counts modulo 2^64, or a parameter with its type
pub data Said : Type 0 where
  item : (type : Option VariableType) → (value : Option ℕ) → Said
  parameter : (type : VariableType) → Said

-- a name with what is said of it at one place
pub record Mention : Type 0 where
  pub name : List ℕ
  pub said : Said

abbrev pub Says : List Mention → List ℕ → Said → Type 0
Says mentions name said = Contains mentions (record { name = name; said = said })

-- the type of a name: what all its typed items and its parameters say; where it has items without a type,
-- also the type of a parameter, or else int. A lock has no value
pub record HasType (mentions : List Mention) (name : List ℕ) (type : VariableType) : Type 0 where
  pub items : (given : VariableType) → (value : Option ℕ) → Says mentions name (item (Some given) value) → type ≡ given
  pub parameters : (given : VariableType) → Says mentions name (parameter given) → type ≡ given
  pub untyped : (value : Option ℕ) → Says mentions name (item None value) → (type ≡ Int) ⊎ Says mentions name (parameter type)
  pub unvalued : (given : Option VariableType) → (value : ℕ) → Says mentions name (item given (Some value)) → type ≢ Lock

-- the value that one mention gives, where a name had another before it
abbrev pub value_after : Said → ℕ → ℕ
value_after (item type None) before = before
value_after (item type (Some value)) before = value
value_after (parameter type) before = before

-- the initial value of a name: the last of several, else 0
abbrev pub last_value : List Mention → List ℕ → ℕ → ℕ
last_value [] name before = before
last_value (mention ∷ later) name before =
    last_value later name (cond (is_same mention.name name) (value_after mention.said before) before)

-- a value of a type, cut to its size
abbrev pub contents_of : VariableType → ℕ → Contents
contents_of Char value = contents.Char (cast_signed w8 (value % 2 ^ 8))
contents_of Short value = contents.Short (cast_signed w16 (value % 2 ^ 16))
contents_of Int value = contents.Int (cast_signed w32 (value % 2 ^ 32))
contents_of Long value = contents.Long (cast_signed w64 (value % 2 ^ 64))
contents_of Atomic value = contents.Atomic (cast_signed w32 (value % 2 ^ 32))
contents_of Lock value = contents.Lock

-- the variable that a name is
pub record IsDeclared (mentions : List Mention) (name : List ℕ) (variable : Variable) : Type 0 where
  pub type : VariableType
  pub name_is : variable.name ≡ name
  pub typed : HasType mentions name type
  pub contents : variable.contents ≡ contents_of type (last_value mentions name 0)

-- the variables that names are, each at its number
pub data AreDeclared (mentions : List Mention) : Names → List Variable → Type 0 where
  none : AreDeclared mentions [] []
  more : {names : Names} {variables : List Variable} {name : List ℕ} {variable : Variable}
      → IsDeclared mentions name variable
      → AreDeclared mentions names variables
      → AreDeclared mentions (name ∷ names) (variable ∷ variables)

-- names get their numbers in the order of their mentions
pub data AreNumbered : (before : Names) → List Mention → (after : Names) → Type 0 where
  none : {names : Names} → AreNumbered names [] names
  more : {before between after : Names} {mention : Mention} {later : List Mention} {number : ℕ}
      → Numbered variables_limit before mention.name number between
      → AreNumbered between later after
      → AreNumbered before (mention ∷ later) after
