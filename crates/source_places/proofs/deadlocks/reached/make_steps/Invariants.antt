-- So far the task was asked so often.
use Rattle.std.proofs.Common.{◌≡◌, replicate}
use Rattle.source_places.proofs.deadlocks.reached.make_steps.Given as goal
use Rattle.source_places.specs.deadlocks.Asked.{Asks}
use Rattle.litmus_step.specs.Steps.{tasks_in}

abbrev pub invariant-loop-made : goal.invariant-loop-made
invariant-loop-made l = record {
  asks : Asks (replicate l._made l.task) l.fn.world l.world;
  tasks : tasks_in l.world ≡ tasks_in l.fn.world;
}
