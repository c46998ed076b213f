-- one open more at the end raises the largest surplus by one
use Rattle.task_context.proofs.Leads.{nest_open_follows}
use Rattle.task_context.proofs.context.Context.nest_begin.Goals as goal

pub returns-clause-follows : goal.returns-clause-follows
returns-clause-follows c = rw (← c.self.view_is) (nest_open_follows _ _ _ _)
