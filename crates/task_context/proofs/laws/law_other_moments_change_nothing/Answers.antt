-- no mark of the task is added, and no countable access of it begins
use Rattle.task_context.proofs.OtherMoments.{other_moment}
use Rattle.task_context.proofs.laws.law_other_moments_change_nothing.Goals as goal

pub returns : goal.returns
returns c = other_moment
