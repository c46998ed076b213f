-- the last flat mark is now an end
use Rattle.task_context.proofs.Leads.{flat_end_follows}
use Rattle.task_context.proofs.context.Context.flat_end.Goals as goal

pub returns-clause-follows : goal.returns-clause-follows
returns-clause-follows c = rw (← c.self.view_is) (flat_end_follows _ _ _ _)
