-- no moment has no marks
use Rattle.task_context.proofs.Leads.{leads-nil}
use Rattle.task_context.proofs.context.Context.new.Goals as goal

pub returns-clause-begins : goal.returns-clause-begins
returns-clause-begins c = leads-nil
