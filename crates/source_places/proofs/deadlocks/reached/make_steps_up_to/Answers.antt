-- The task is asked.
use Rattle.source_places.proofs.deadlocks.reached.make_steps_up_to.Goals as goal

pub returns : goal.returns
returns c = (_, c.make_steps.ensures)
