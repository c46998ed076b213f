-- Which task of an execution waits for a lock, and who holds that.
use Rattle.std.specs.Prelude.{◌≡◌, ◌<◌, ◌↔◌, ◌+◌, ℕ, AllPairs, Contains, List, None, Option, Some, length, reverse, slice_get}
use Rattle.source_places.specs.declared.deadlocks.waits.LockWait.{LockWait}
use Rattle.executions.specs.execution.Run.{Run, first_words, task_of, task_setting}
use Rattle.litmus_step.specs.Runs.{IsStuck, tasks_of}
use Rattle.program_order.specs.Waits.{OnlyStep}
use Rattle.slot_table.specs.Records.{records_of, words_after}
use Rattle.slot_table.specs.declared.records.Record.{Record}
use Rattle.slot_table.specs.declared.step.Step.{Step}
use Rattle.slot_table.specs.declared.step.Step.TheVariants.{LockTry}

-- the lock that a step tries to take, if it does
abbrev pub lock_of : Option Step → Option ℕ
lock_of (Some (LockTry lock by)) = Some lock
lock_of other = None

-- Behind these records, the latest first, the task is not stuck, and can go on by a try to take the lock alone.
pub record TriesLock (run : Run) (records : List Record) (task lock : ℕ) : Type 0 where
  pub free : ¬ IsStuck run task records
  pub by : ℕ
  pub next : OnlyStep (task_setting run task) (length (task_of run task).registers) (task_of run task).body
      (reverse (records_of task records)) (LockTry lock by)

-- the task tries to take the lock, and the lock's word says that the holder, a task of the program, holds it
pub record IsLockWait (run : Run) (records : List Record) (wait : LockWait) : Type 0 where
  pub tries : TriesLock run records wait.task wait.lock
  pub there : wait.holder < tasks_of run
  pub held : slice_get (words_after (first_words run) records).locks wait.lock ≡ Some (1 + wait.holder)

-- these are such waits of the tasks below a number, all of them, in the order of the tasks
pub record AreWaitsBelow (run : Run) (records : List Record) (tasks : ℕ) (waits : List LockWait) : Type 0 where
  pub each : (wait : LockWait) → Contains waits wait ↔ ((wait.task < tasks) × IsLockWait run records wait)
  pub order : AllPairs (λ one other. one.task < other.task) waits

-- so they are of all tasks
abbrev pub AreLockWaits : (run : Run) (records : List Record) → List LockWait → Type 0
AreLockWaits run records waits = AreWaitsBelow run records (tasks_of run) waits
