-- By the logs.
use Rattle.litmus_step.proofs.world.World.arms.Goals as goal

pub returns : goal.returns
returns c = λ run records leads. c.arms_of.ensures run records leads.list leads.can.limits
    (rw c.as_slice.ensures.value leads.kept.logs_are)
