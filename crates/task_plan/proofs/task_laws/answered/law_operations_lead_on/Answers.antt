-- By what is open.
use Rattle.task_plan.proofs.task_laws.Ends.{operation_leads}
use Rattle.task_plan.proofs.task_laws.answered.law_operations_lead_on.Goals as goal

pub returns : goal.returns
returns c = operation_leads
