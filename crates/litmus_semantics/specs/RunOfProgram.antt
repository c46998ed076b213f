-- Which histories are runs of a program.
use Rattle.std.specs.Prelude.{◌≡◌, ◌<◌, ◌++◌, ◌==◌, ℕ, List, [], All, IfSome, IsTrue, Option, None, Some, fold, length, replicate, slice_get, take, if◌then◌else◌}
use Rattle.access_types.specs.Access.{Access}
use Rattle.access_types.specs.History.{History, InProgress, Memory, content, happenings_of}
use Rattle.access_types.specs.Kind.{is_scoped}
use Rattle.access_types.specs.Race.{bytes_of}
use Rattle.access_types.specs.declared.history.Happening.{Happening}
use Rattle.access_types.specs.declared.history.Happening.TheVariants.{End, Read, Write, Lock, Unlock}
use Rattle.access_types.specs.declared.history.Moment.{Moment}
use Rattle.litmus_syntax.specs.Tree.{Program, Task}
use Rattle.litmus_semantics.specs.Layout.{VariablePlace, memory_at_first}
use Rattle.litmus_semantics.specs.Meaning.{MeansBlock}
use Rattle.litmus_semantics.specs.Task.{Progress, Setting}

-- a task before its first statement: its registers are 0
abbrev pub at_first : Task → Progress
at_first task = record { did = []; registers = replicate (length task.registers) 0 }

-- a task of a program, by its number
abbrev pub setting_of : Program → List VariablePlace → ℕ → Setting
setting_of program places number =
    record { task = number; variables = program.variables; places = places }

-- what a task did is a beginning of what its text means
pub record IsBeginning (program : Program) (places : List VariablePlace) (number : ℕ) (task : Task)
    (did : List Happening) : Type 0 where
  pub end : Progress
  pub rest : List Happening
  pub whole : end.did ≡ did ++ rest
  pub means : MeansBlock (setting_of program places number) 0 task.body (at_first task) end

-- whose a lock is after a moment, and after some, one after the other: at first it is free
abbrev pub holder_after : ℕ → Option ℕ → ℕ → Happening → Option ℕ
holder_after lock before task (Lock at) = if at == lock then Some task else before
holder_after lock before task (Unlock at) = if at == lock then None else before
holder_after lock before task happening = before

abbrev pub holder : ℕ → History → Option ℕ
holder lock history =
    fold (λ before moment. holder_after lock before moment.task moment.happening) None history

-- what may happen to a task after these moments: a read holds the content of its bytes, a lock is
-- taken when it is free, and given up by its holder
abbrev pub IsPossible : Memory → History → ℕ → ℕ → Happening → Type 0
IsPossible initial history k task (Read bytes value) = value ≡ content initial history k bytes
IsPossible initial history k task (Lock lock) = holder lock (take k history) ≡ None
IsPossible initial history k task (Unlock lock) = holder lock (take k history) ≡ Some task
IsPossible initial history k task happening = Unit {0}

-- an access's own moments after its begin: its reads and writes, and its end
abbrev pub IsOwn : Access → Happening → Type 0
IsOwn a (Read bytes value) = bytes ≡ bytes_of a
IsOwn a (Write bytes value) = bytes ≡ bytes_of a
IsOwn a (End b) = b ≡ a
IsOwn a happening = ⊥

-- while an access is in progress its task does nothing else; only scoped assertions stay open over
-- other moments
abbrev pub DoesNothingElse : History → Access → Type 0
DoesNothingElse history a =
    (k : ℕ) → InProgress history a k
    → IfSome (slice_get history k) (λ moment. moment.task ≡ a.task → IsOwn a moment.happening)

-- the history is that of a run of the program, with its variables at these places
pub record RunOfProgram (program : Program) (places : List VariablePlace) (history : History) :
    Type 0 where
  pub tasks : All (λ (moment : Moment). moment.task < length program.tasks) history
  pub begun : (number : ℕ) → IfSome (slice_get program.tasks number)
      (λ task. IsBeginning program places number task (happenings_of number history))
  pub possible : (k : ℕ) → IfSome (slice_get history k)
      (λ moment. IsPossible (memory_at_first places program.variables) history k moment.task
      moment.happening)
  pub alone : (a : Access) → ¬ IsTrue (is_scoped a.kind) → DoesNothingElse history a
