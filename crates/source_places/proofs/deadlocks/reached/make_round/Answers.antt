-- One task more is asked.
use Rattle.std.proofs.Common.{[]}
use Rattle.source_places.proofs.deadlocks.AskedLemmas.{asks_nothing, some_then}
use Rattle.source_places.proofs.deadlocks.reached.make_round.Goals as goal

pub loop-task-init : goal.loop-task-init
loop-task-init c = ([], asks_nothing c.args.world.now)

pub loop-task-preserved : goal.loop-task-preserved
loop-task-preserved c =
    some_then c.args.world.now c.loop-task.world c.make_steps_up_to.new.world c.loop-task.invariant c.make_steps_up_to.ensures
