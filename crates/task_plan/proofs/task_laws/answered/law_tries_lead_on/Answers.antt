-- By what is open.
use Rattle.task_plan.proofs.task_laws.Ends.{tries_lead}
use Rattle.task_plan.proofs.task_laws.answered.law_tries_lead_on.Goals as goal

pub returns : goal.returns
returns c = tries_lead
