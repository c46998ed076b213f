-- one disable more at the end raises the largest surplus by one
use Rattle.task_context.proofs.Leads.{disable_follows}
use Rattle.task_context.proofs.context.Context.disable.Goals as goal

pub returns-clause-follows : goal.returns-clause-follows
returns-clause-follows c = rw (← c.self.view_is) (disable_follows _ _ _ _)
