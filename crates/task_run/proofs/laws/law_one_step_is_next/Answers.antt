-- Each stage is before one step.
use Rattle.task_run.proofs.SaysLemmas.{one_says}
use Rattle.task_run.proofs.laws.law_one_step_is_next.Goals as goal

pub returns : goal.returns
returns c = λ run one other h k. one_says run run.stage one other h k
