-- What names mean in a process.
use Rattle.std.specs.Prelude.{◌≡◌, ◌<◌, ◌++◌, ℕ, List, [], ◌∷◌, Some, Contains, length, slice_get}
use Rattle.litmus_lex.specs.declared.words.VariableType.{VariableType}
use Rattle.litmus_lex.specs.declared.words.VariableType.TheVariants.{Char, Short, Int, Long, Atomic, Lock}
use Rattle.litmus_syntax.specs.Limits.{registers_limit}

-- the names that stand at numbers, from 0
abbrev pub Names : Type 0
Names = List (List ℕ)

-- a name has a number among names: it stands there, or it is new and gets the next one, below a limit
pub data Numbered (limit : ℕ) (before : Names) (name : List ℕ) : ℕ → Names → Type 0 where
  known : {number : ℕ} → slice_get before number ≡ Some name → Numbered limit before name number before
  new : ¬ Contains before name → length before < limit → Numbered limit before name (length before) (before ++ name ∷ [])

-- a parameter of a process: a name, the number of its variable, and its type
pub record Parameter : Type 0 where
  pub name : List ℕ
  pub variable : ℕ
  pub type : VariableType

-- `char`, `short`, `int` and `long`
abbrev pub IsInteger : VariableType → Type 0
IsInteger Char = Unit {0}
IsInteger Short = Unit {0}
IsInteger Int = Unit {0}
IsInteger Long = Unit {0}
IsInteger Atomic = ⊥
IsInteger Lock = ⊥

-- `atomic_t`
abbrev pub IsAtomic : VariableType → Type 0
IsAtomic type = type ≡ Atomic

-- `spinlock_t`
abbrev pub IsLock : VariableType → Type 0
IsLock type = type ≡ Lock

-- all but `spinlock_t`
abbrev pub HasBytes : VariableType → Type 0
HasBytes type = ¬ (type ≡ Lock)

-- VAR in a process: a parameter's name names its variable, which has a type of the form
pub record IsVariable (parameters : List Parameter) (Form : VariableType → Type 0) (name : List ℕ) (variable : ℕ) : Type 0 where
  pub type : VariableType
  pub parameter : Contains parameters (record { name = name; variable = variable; type = type })
  pub of_form : Form type

-- the name is no parameter's
abbrev pub IsFree : List Parameter → List ℕ → Type 0
IsFree parameters name = (variable : ℕ) → (type : VariableType) → ¬ Contains parameters (record { name = name; variable = variable; type = type })

-- REG in a process: a name that is no parameter's has a number among the task's registers
pub record IsRegister (parameters : List Parameter) (before : Names) (name : List ℕ) (register : ℕ) (after : Names) : Type 0 where
  pub free : IsFree parameters name
  pub numbered : Numbered registers_limit before name register after

-- REG where it is assigned or declared: it counts none of the loops round the place
pub record IsChanged (parameters : List Parameter) (counters : List ℕ) (before : Names) (name : List ℕ) (register : ℕ) (after : Names) : Type 0 where
  pub is : IsRegister parameters before name register after
  pub counts_none : ¬ Contains counters register
