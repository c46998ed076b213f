-- What a load means, and an expression with one.
use Rattle.std.specs.Prelude.{◌≡◌, ◌≢◌, ◌++◌, ℕ, List, [], ◌∷◌, None, replicate}
use Rattle.access_types.specs.Access.{Access}
use Rattle.access_types.specs.Race.{bytes_of}
use Rattle.access_types.specs.declared.history.Happening.{Happening}
use Rattle.access_types.specs.declared.history.Happening.TheVariants as happenings
use Rattle.access_types.specs.declared.history.Mark.TheVariants as marks
use Rattle.access_types.specs.declared.kind.Kind.{Kind}
use Rattle.access_types.specs.declared.kind.Kind.TheVariants as kinds
use Rattle.access_types.specs.declared.kind.Operation.TheVariants as operations
use Rattle.litmus_syntax.specs.Tree.{Expression, Fetch, Load, Loading, Pure}
use Rattle.litmus_syntax.specs.Tree as tree
use Rattle.litmus_syntax.specs.declared.expression.ReadForm.{ReadForm}
use Rattle.litmus_syntax.specs.declared.expression.ReadForm.TheVariants as reads
use Rattle.litmus_semantics.specs.Expressions.{loading_value, pure_value}
use Rattle.litmus_semantics.specs.Task.{Progress, Setting, access_now, bytes_in, doing}
use Rattle.litmus_semantics.specs.Values.{cut, sign_extended}

-- only a plain read isn't declared marked
abbrev pub read_kind : ReadForm → Kind
read_kind reads.Plain = kinds.Plain operations.Read
read_kind reads.Once = kinds.Marked operations.Read
read_kind reads.Acquire = kinds.Marked operations.Read
read_kind reads.Atomic = kinds.Marked operations.Read

-- xchg, cmpxchg and the atomic_ calls that read and write
abbrev pub exchange_kind : Kind
exchange_kind = kinds.Marked operations.ReadWrite

-- the kind of the access that a load makes
abbrev pub fetch_kind : Fetch → Kind
fetch_kind (tree.read form x) = read_kind form
fetch_kind (tree.exchange x e) = exchange_kind
fetch_kind (tree.compare_exchange x e f) = exchange_kind

-- an access reads a value
abbrev pub reading : Access → ℕ → List Happening
reading a value =
    happenings.Begin a ∷ happenings.Read (bytes_of a) value ∷ happenings.End a ∷ []

-- an access reads a value and then writes one
abbrev pub updating : Access → ℕ → ℕ → List Happening
updating a old new =
    happenings.Begin a ∷ happenings.Read (bytes_of a) old ∷ happenings.Write (bytes_of a) new
    ∷ happenings.End a ∷ []

-- cmpxchg writes the replacement where it reads the expected value
pub data ComparesAndWrites (a : Access) (expected replacement old : ℕ)
    (does : List Happening) : Type 0 where
  same : old ≡ expected → does ≡ updating a old replacement
      → ComparesAndWrites a expected replacement old does
  other : old ≢ expected → does ≡ reading a old
      → ComparesAndWrites a expected replacement old does

-- What a load of a site does, and the value that its bytes held before. That value is any: what
-- memory holds is no matter of the text.
abbrev pub Fetches : Setting → ℕ → Fetch → Progress → ℕ → List Happening → Type 0
Fetches s site (tree.read form x) before old does =
    does ≡ reading (access_now s site before (bytes_in s x) (read_kind form) None) old
Fetches s site (tree.exchange x e) before old does =
    let bytes = bytes_in s x in
    does ≡ updating (access_now s site before bytes exchange_kind None) old
    (cut bytes.size (pure_value before.registers e))
Fetches s site (tree.compare_exchange x e f) before old does =
    let bytes = bytes_in s x in
    ComparesAndWrites (access_now s site before bytes exchange_kind None)
    (cut bytes.size (pure_value before.registers e))
    (cut bytes.size (pure_value before.registers f)) old does

-- the variable that a load is of
abbrev pub variable_of : Fetch → ℕ
variable_of (tree.read form x) = x
variable_of (tree.exchange x e) = x
variable_of (tree.compare_exchange x e f) = x

-- reports are off inside data_race( ), so many times over
abbrev pub in_data_races : ℕ → List Happening → List Happening
in_data_races count does =
    replicate count (happenings.Mark marks.Disable) ++ does
    ++ replicate count (happenings.Mark marks.Enable)

-- a load of a site gives this value
pub record Loads (s : Setting) (site : ℕ) (load : Load) (before : Progress)
    (loaded : ℕ) (after : Progress) : Type 0 where
  pub old : ℕ
  pub does : List Happening
  pub fetches : Fetches s site load.fetch before old does
  pub value : loaded ≡ sign_extended (bytes_in s (variable_of load.fetch)).size old
  pub comes_to : after ≡ doing before (in_data_races load.data_races does)

-- the load of an expression that has one
abbrev pub load_in : Loading → Load
load_in (tree.load l) = l
load_in (tree.unary_of op e) = load_in e
load_in (tree.left op a b) = load_in a
load_in (tree.right op a b) = load_in b

-- an expression of a site has this value: its load, if it has one, is made first
abbrev pub Evaluates : Setting → ℕ → Expression → Progress → ℕ → Progress → Type 0
Evaluates s site (tree.pure e) before value after =
    (value ≡ pure_value before.registers e) × (after ≡ before)
Evaluates s site (tree.loading e) before value after =
    (loaded : ℕ) × Loads s site (load_in e) before loaded after
    × (value ≡ loading_value before.registers loaded e)
