-- By what is open.
use Rattle.task_plan.proofs.task_laws.Ends.{close_leads}
use Rattle.task_plan.proofs.task_laws.answered.law_closes_lead_on.Goals as goal

pub returns : goal.returns
returns c = close_leads
