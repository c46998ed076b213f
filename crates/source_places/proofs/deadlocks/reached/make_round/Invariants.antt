-- So far tasks were asked.
use Rattle.source_places.proofs.deadlocks.reached.make_round.Given as goal
use Rattle.source_places.specs.deadlocks.Asked.{AsksSome}

abbrev pub invariant-loop-task : goal.invariant-loop-task
invariant-loop-task l = AsksSome l.fn.world l.world
