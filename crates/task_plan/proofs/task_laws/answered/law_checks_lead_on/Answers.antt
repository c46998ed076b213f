-- By what is open.
use Rattle.task_plan.proofs.task_laws.Ends.{check_leads}
use Rattle.task_plan.proofs.task_laws.answered.law_checks_lead_on.Goals as goal

pub returns : goal.returns
returns c = check_leads
