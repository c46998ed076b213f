use Rattle.task_plan.proofs.KeepsLemmas.{keeps_on}
use Rattle.task_plan.proofs.laws.law_other_doings_are_not_kept.Goals as goal

pub returns : goal.returns
returns c = keeps_on
