-- By the logs.
use Rattle.litmus_step.proofs.world.World.counters.Goals as goal

pub returns : goal.returns
returns c = λ run records leads. c.counters_of.ensures run records leads.list (rw c.as_slice.ensures.value leads.kept.logs_are)
