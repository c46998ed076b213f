-- The waits of the tasks so far.
use Rattle.std.proofs.Common.{List}
use Rattle.source_places.proofs.deadlocks.waits.lock_waits.Given as goal
use Rattle.source_places.specs.deadlocks.Waits.{AreWaitsBelow}
use Rattle.executions.specs.execution.Run.{Run}
use Rattle.litmus_step.specs.Steps.{LeadsTo}
use Rattle.slot_table.specs.declared.records.Record.{Record}

abbrev pub invariant-loop-task : goal.invariant-loop-task
invariant-loop-task l = (run : Run) (records : List Record) → LeadsTo run records l.world → AreWaitsBelow run records l.task l.waits.items
