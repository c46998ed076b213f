-- What is true of a wait for a lock, by its records so far.
use Rattle.std.specs.Prelude.{◌≡◌, ◌↔◌, ◌-◌, ◌^◌, ◌++◌, ◌≤◌, ◌⊎◌, ℕ, Bool, true, false, List, [], min}
use Rattle.access_run.specs.memory_operation.Leads.{GoesOn}
use Rattle.access_run.specs.memory_operation.Locks.{TakesLock}
use Rattle.access_run.specs.memory_operation.Waits.{failed_tries}
use Rattle.access_run.specs.declared.memory_operation.lock.LockWait.{LockWait}
use Rattle.slot_table.specs.declared.records.Record.{Record}
use Rattle.slot_table.specs.declared.step.Step.{Step}
use Rattle.slot_table.specs.declared.step.Step.TheVariants.{LockTry}

-- the records are what a task has left until it has the lock
abbrev pub LockLeft : ℕ → ℕ → Bool → List Record → Type 0
LockLeft task lock true records = [] ≡ records
LockLeft task lock false records = TakesLock task lock records []

-- the failed tries at the end of these records are counted, up to the last count that there is
abbrev pub LockCounts : Bool → ℕ → List Record → Type 0
LockCounts true tries records = Unit {0}
LockCounts false tries records = tries ≡ min (failed_tries records) (2 ^ 64 - 1)

-- the wait is before this step
abbrev pub LockSays : LockWait → Step → Type 0
LockSays wait step = (wait.is_taken ≡ false) × (step ≡ LockTry wait.lock wait.task)

-- the tries of a lock lead, by these records so far, to where they are: whatever completes the
-- records completes what is left, and the failed tries are counted
pub record LockLeads (task lock : ℕ) (records : List Record) (wait : LockWait) : Type 0 where
  pub of_task : wait.task ≡ task
  pub of_lock : wait.lock ≡ lock
  pub left : (later : List Record)
      → TakesLock task lock (records ++ later) [] ↔ LockLeft task lock wait.is_taken later
  pub counts : LockCounts wait.is_taken wait.tries records

-- whatever completes the records so far goes on with this step
abbrev pub OnlyLockStep : ℕ → ℕ → List Record → Step → Type 0
OnlyLockStep task lock records step =
    (later : List Record) → TakesLock task lock (records ++ later) [] → GoesOn task step later

-- the task hasn't the lock, and was refused it so often as failed tries are allowed
abbrev pub IsStuckAtLock : ℕ → ℕ → ℕ → List Record → Type 0
IsStuckAtLock turns task lock records =
    (¬ TakesLock task lock records []) × (turns ≤ failed_tries records)

-- no step follows on the records: the task has the lock, or is stuck
abbrev pub LockIsOver : ℕ → ℕ → ℕ → List Record → Type 0
LockIsOver turns task lock records =
    TakesLock task lock records [] ⊎ IsStuckAtLock turns task lock records

-- the records are all tries of the lock, and nothing goes on with them
pub record LockIsTaken (task lock : ℕ) (records : List Record) : Type 0 where
  pub takes : TakesLock task lock records []
  pub ends : (later : List Record) → TakesLock task lock (records ++ later) [] → later ≡ []
