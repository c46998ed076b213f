-- The counters are those of the tasks so far.
use Rattle.std.proofs.Common.{List}
use Rattle.litmus_step.proofs.logs.counters_of.Given as goal
use Rattle.litmus_step.specs.Kept.{AreLogs}
use Rattle.executions.specs.execution.Run.{Run}
use Rattle.executions.specs.execution.Execution.{Execution}
use Rattle.log_correctness.specs.Totals.{CountsTasks}
use Rattle.slot_table.specs.declared.records.Record.{Record}

abbrev pub invariant-loop-log : goal.invariant-loop-log
invariant-loop-log l = (run : Run) (records : List Record) → (list : Execution run records) → AreLogs list l.logs
    → CountsTasks list l.log-index l.counters
