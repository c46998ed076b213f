-- By induction on the block.
use Rattle.task_plan.proofs.task_laws.TextLemmas.{fitting_spelled}
use Rattle.task_plan.proofs.task_laws.spelled.law_fitting_blocks_are_spelled.Goals as goal

pub returns : goal.returns
returns c = fitting_spelled
