use Rattle.task_plan.proofs.KeepsLemmas.{same_access}
use Rattle.task_plan.proofs.laws.law_what_is_kept_is_of_one_standing.Goals as goal

pub returns-clause-accesses : goal.returns-clause-accesses
returns-clause-accesses c = same_access
