-- The records of a task are whole checks and closes, with steps between them that neither set up nor take.
use Rattle.std.specs.Prelude.{◌≡◌, ℕ, Bool, List, [], ◌∷◌, IsTrue}
use Rattle.slot_table.specs.Discipline.{holds}
use Rattle.slot_table.specs.declared.records.Record.{Record}
use Rattle.slot_table.specs.declared.step.Step.{Step}
use Rattle.slot_table.specs.declared.step.Step.TheVariants.{CellExchange, CellLoad, Clear, Clock, Consume, Insert, Load, LockStore, LockTry, Name, PairLoad, Remove, Tell, TryConsume}
use Rattle.setup_access.specs.Check.{Check, Close, Passes}
use Rattle.setup_access.specs.Setting.{Setting}
use Rattle.setup_access.specs.declared.begun.Begun.{Begun}

-- where these records, the oldest first, follow on the task's own ones before them, the latest first, it frees only
-- locks that it holds
abbrev pub FreesHeldLocks : List Record → List Record → Type 0
FreesHeldLocks earlier [] = Unit {0}
FreesHeldLocks earlier (first ∷ later) =
    ((lock : ℕ) → first.step ≡ LockStore lock → IsTrue (holds lock earlier)) × FreesHeldLocks (first ∷ earlier) later

-- the step is one that a task makes besides its checks: a load, the clock's, or one of memory or of a lock
abbrev pub IsBesides : ℕ → Step → Type 0
IsBesides task (Load index) = Unit {0}
IsBesides task (Insert index word) = ⊥
IsBesides task (TryConsume index word) = ⊥
IsBesides task (Consume index) = ⊥
IsBesides task (Remove index) = ⊥
IsBesides task (PairLoad index) = Unit {0}
IsBesides task (Name index ticket) = ⊥
IsBesides task (Tell index ticket) = ⊥
IsBesides task (Clear index) = ⊥
IsBesides task (CellLoad cell) = Unit {0}
IsBesides task (CellExchange cell expected new) = Unit {0}
IsBesides task (LockTry lock holder) = holder ≡ task
IsBesides task (LockStore lock) = Unit {0}
IsBesides task Clock = Unit {0}

-- the records, the oldest first, are checks and closes one after the other, with other steps between them
pub data MadeOfChecks (s : Setting) : List Record → Type 0 where
  nothing : MadeOfChecks s []
  besides : (first : Record) (later : List Record) → IsBesides s.task first.step → MadeOfChecks s later → MadeOfChecks s (first ∷ later)
  checks : (scopes : List Begun) (begun : Begun) (asked : ℕ) (records : List Record) (passes : Passes) (rest : List Record)
      → Check s scopes begun asked records passes rest → MadeOfChecks s rest → MadeOfChecks s records
  closes : (scope : Begun) (silenced : Bool) (asked : ℕ) (records : List Record) (passes : Passes) (rest : List Record)
      → Close s scope silenced asked records passes rest → MadeOfChecks s rest → MadeOfChecks s records
