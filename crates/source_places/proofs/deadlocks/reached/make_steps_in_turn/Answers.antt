-- Tasks are asked once more.
use Rattle.std.proofs.Common.{[]}
use Rattle.source_places.proofs.deadlocks.AskedLemmas.{asks_nothing, some_then}
use Rattle.source_places.proofs.deadlocks.reached.make_steps_in_turn.Goals as goal

pub loop-entry-init : goal.loop-entry-init
loop-entry-init c = ([], asks_nothing c.args.world.now)

pub loop-entry-preserved : goal.loop-entry-preserved
loop-entry-preserved c =
    some_then c.args.world.now c.loop-entry.world c.make_steps_up_to.new.world c.loop-entry.invariant c.make_steps_up_to.ensures

pub loop-round-preserved : goal.loop-round-preserved
loop-round-preserved c =
    some_then c.args.world.now c.loop-round.world c.make_round.new.world c.loop-round.invariant c.make_round.ensures
