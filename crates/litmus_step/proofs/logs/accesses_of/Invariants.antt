-- So far these are the accesses of the tasks before this one.
use Rattle.std.proofs.Common.{List}
use Rattle.litmus_step.proofs.logs.accesses_of.Given as goal
use Rattle.litmus_step.specs.Kept.{AreLogs}
use Rattle.litmus_syntax.specs.Limits.{KeepsLimits}
use Rattle.executions.specs.execution.Run.{Run}
use Rattle.executions.specs.execution.Execution.{Execution}
use Rattle.log_correctness.specs.Lists.{AreAccessesOf, ByTask}
use Rattle.slot_table.specs.declared.records.Record.{Record}

abbrev pub invariant-loop-log : goal.invariant-loop-log
invariant-loop-log l = (run : Run) (records : List Record) → (list : Execution run records) → KeepsLimits run.program
    → AreLogs list l.logs → ByTask (AreAccessesOf list) l.log-index l.all.items
