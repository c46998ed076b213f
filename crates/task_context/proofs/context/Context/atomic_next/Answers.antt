-- the last next-mark is now this one
use Rattle.task_context.proofs.Leads.{next_follows}
use Rattle.task_context.proofs.context.Context.atomic_next.Goals as goal

pub returns-clause-follows : goal.returns-clause-follows
returns-clause-follows c = rw (← c.self.view_is) (next_follows _ _ _ _ _)
