-- By the logs.
use Rattle.runner.proofs.result.RunResult.arms.Goals as goal

pub returns : goal.returns
returns c = λ run records list is. c.arms_of.ensures run records list is.can.limits (rw c.as_slice.ensures.value is.logs)
