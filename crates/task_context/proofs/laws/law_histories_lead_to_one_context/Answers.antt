-- some context by going on moment by moment, and one since each part is determined
use Rattle.task_context.proofs.OneContext.{one_context, some_context}
use Rattle.task_context.proofs.laws.law_histories_lead_to_one_context.Goals as goal

pub returns-clause-some : goal.returns-clause-some
returns-clause-some c = some_context

pub returns-clause-one : goal.returns-clause-one
returns-clause-one c = one_context
