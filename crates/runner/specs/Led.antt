-- A task that a list of its own steps leads to.
use Rattle.std.specs.Prelude.{ℕ, List, length, reverse}
use Rattle.access_types.specs.declared.report.Report.{Report}
use Rattle.litmus_step.specs.Kept.{accesses_kept, watches_kept}
use Rattle.executions.specs.execution.Run.{Run, task_of, task_setting}
use Rattle.executions.specs.execution.Execution.{InWrittenOrder}
use Rattle.log_correctness.specs.Noted.{AreNoted}
use Rattle.litmus_step.specs.Kept.{AreFirst}
use Rattle.slot_table.specs.declared.records.Record.{Record}
use Rattle.task_log.specs.Keeps.{Keeps}
use Rattle.task_log.specs.Reports.{reported_in}
use Rattle.task_log.specs.declared.log.TaskLog.{TaskLog}
use Rattle.task_log.specs.declared.noted.Noted.{Noted}
use Rattle.task_run.specs.Leads.{Leads}
use Rattle.task_run.specs.declared.run.TaskRun.{TaskRun}
use Rattle.program_order.specs.Waits.{WithinTurns}

-- A task's own records, the latest first, are in the written order of its text, with no wait for longer than the turns.
-- They lead to its machine, and what is kept of its steps is what is noted of them.
pub record IsLed (run : Run) (task : ℕ) (own : List Record) (machine : TaskRun) (log : TaskLog) (reports : List Report) (room : ℕ) :
    Type 0 where
  pub written : InWrittenOrder run task own
  pub within : WithinTurns run.rules.turns own
  pub leads : Leads (task_setting run task) (length (task_of run task).registers) (task_of run task).body (reverse own) machine
  pub noted : List Noted
  pub notes : AreNoted written own noted
  pub keeps : Keeps (accesses_kept run task) (watches_kept run task) noted log
  pub reported : AreFirst reports room (reported_in noted)
