-- So far these are the calls of the tasks before this one.
use Rattle.std.proofs.Common.{◌≡◌, List}
use Rattle.litmus_step.proofs.world.World.unbalanced.Given as goal
use Rattle.litmus_step.specs.Steps.{LeadsTo}
use Rattle.executions.specs.execution.Run.{Run}
use Rattle.log_correctness.specs.Totals.{unbalanced_below}
use Rattle.slot_table.specs.declared.records.Record.{Record}

abbrev pub invariant-loop-run : goal.invariant-loop-run
invariant-loop-run l = (run : Run) (records : List Record) → (leads : LeadsTo run records l.self)
    → l.unbalanced ≡ unbalanced_below leads.list l.run-index
