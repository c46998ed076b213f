-- By the logs.
use Rattle.runner.proofs.result.RunResult.counters.Goals as goal

pub returns : goal.returns
returns c = λ run records list is. c.counters_of.ensures run records list (rw c.as_slice.ensures.value is.logs)
