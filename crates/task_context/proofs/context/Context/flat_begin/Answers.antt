-- the last flat mark is now a begin
use Rattle.task_context.proofs.Leads.{flat_begin_follows}
use Rattle.task_context.proofs.context.Context.flat_begin.Goals as goal

pub returns-clause-follows : goal.returns-clause-follows
returns-clause-follows c = rw (← c.self.view_is) (flat_begin_follows _ _ _ _)
