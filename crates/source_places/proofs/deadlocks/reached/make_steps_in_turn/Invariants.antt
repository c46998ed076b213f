-- So far tasks were asked.
use Rattle.source_places.proofs.deadlocks.reached.make_steps_in_turn.Given as goal
use Rattle.source_places.specs.deadlocks.Asked.{AsksSome}

abbrev pub invariant-loop-entry : goal.invariant-loop-entry
invariant-loop-entry l = AsksSome l.fn.world l.world

abbrev pub invariant-loop-round : goal.invariant-loop-round
invariant-loop-round l = AsksSome l.fn.world l.world
