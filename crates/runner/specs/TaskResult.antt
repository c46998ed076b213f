-- What is found of a task that has made the steps of its whole text.
use Rattle.std.specs.Prelude.{◌≡◌, ℕ, zero, suc, List, Option, None, Some, length, reverse, slice_get}
use Rattle.litmus_step.specs.Kept.{accesses_kept, watches_kept}
use Rattle.litmus_step.specs.Runs.{tasks_of}
use Rattle.executions.specs.execution.Run.{Run, task_of, task_setting}
use Rattle.executions.specs.execution.Execution.{InWrittenOrder}
use Rattle.log_correctness.specs.Noted.{AreNoted}
use Rattle.prepared_program.specs.declared.program_sites.error.RunError.{RunError}
use Rattle.prepared_program.specs.declared.program_sites.error.RunError.TheVariants.{BadPlace, BadSchedule, BadSlots, NoThread, OutOfMemory, Stuck}
use Rattle.runner.specs.declared.seated.TaskResult.{TaskResult}
use Rattle.shared_table.specs.Seats.{Opened}
use Rattle.slot_table.specs.declared.records.Record.{Record}
use Rattle.task_log.specs.Counters.{together}
use Rattle.task_log.specs.Keeps.{Keeps}
use Rattle.task_log.specs.Reports.{reported_in}
use Rattle.task_log.specs.declared.noted.Noted.{Noted}
use Rattle.task_plan.specs.Counts.{up_to_last}
use Rattle.program_order.specs.Waits.{IsStuck, WithinTurns}
use Rattle.program_order.specs.WrittenOrder.{SpellsAll, stands_after}

-- The task of a number has made the steps of its whole text, which its seat holds. What was kept of them is what is
-- noted of them, what was reported is what is reported at them, and its registers are those that they leave.
pub record IsFound (run : Run) (opened : Opened) (task : ℕ) (found : TaskResult) : Type 0 where
  pub table : found.seat.table ≡ opened
  pub own : found.seat.task ≡ task
  pub written : InWrittenOrder run task found.seat.records
  pub within : WithinTurns run.rules.turns found.seat.records
  pub whole : SpellsAll (task_setting run task) (length (task_of run task).registers) (task_of run task).body (reverse found.seat.records)
  pub noted : List Noted
  pub notes : AreNoted written found.seat.records noted
  pub keeps : Keeps (accesses_kept run task) (watches_kept run task) noted found.log
  pub reported : found.reports.items ≡ reported_in noted
  pub registers : found.registers.items ≡ (stands_after written).progress.registers
  pub unbalanced : found.unbalanced ≡ up_to_last (stands_after written).unbalanced

-- some steps of the task, in the order of its text, end in a wait with as many failed tries as are allowed
abbrev pub IsFailedWait : Run → ℕ → Type 0
IsFailedWait run task = (own : List Record)
    × IsStuck (task_setting run task) (length (task_of run task).registers) (task_of run task).body (reverse own)

-- The task comes to the end of its text: these steps, in the order of the text, are its whole text, and no wait has as
-- many failed tries as are allowed.
pub record IsThrough (run : Run) (task : ℕ) : Type 0 where
  pub own : List Record
  pub written : InWrittenOrder run task own
  pub within : WithinTurns run.rules.turns own
  pub whole : SpellsAll (task_setting run task) (length (task_of run task).registers) (task_of run task).body (reverse own)

-- each task is found so
pub record AreFound (run : Run) (opened : Opened) (found : List TaskResult) : Type 0 where
  pub all : length found ≡ tasks_of run
  pub each : (task : ℕ) (one : TaskResult) → slice_get found task ≡ Some one → IsFound run opened task one

abbrev pub calls_of : Option TaskResult → ℕ
calls_of None = 0
calls_of (Some found) = found.unbalanced

-- how many calls of the first so many tasks had nothing to end; the sum rests at the largest number of 64 bits
abbrev pub calls_below : List TaskResult → ℕ → ℕ
calls_below found zero = 0
calls_below found (suc n) = together (calls_below found n) (calls_of (slice_get found n))

-- why threads make nothing of a program that is made ready: a task is stuck, or the machine has no memory or no thread
abbrev pub IsOfThreads : RunError → Type 0
IsOfThreads BadSlots = ⊥
IsOfThreads BadPlace = ⊥
IsOfThreads OutOfMemory = Unit {0}
IsOfThreads (Stuck task) = Unit {0}
IsOfThreads BadSchedule = ⊥
IsOfThreads NoThread = Unit {0}
