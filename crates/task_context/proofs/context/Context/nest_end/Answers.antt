-- one close more at the end takes one from the largest surplus, if there is one
use Rattle.task_context.proofs.Leads.{nest_close_follows}
use Rattle.task_context.proofs.context.Context.nest_end.Goals as goal

-- none is open, and so none after it
pub returns-then-self-eq0-clause-follows : goal.returns-then-self-eq0-clause-follows
returns-then-self-eq0-clause-follows c =
    rw (← c.self.view_is, c.if-self-eq0.true) (nest_close_follows _ _ _ _)

pub returns-clause-follows : goal.returns-clause-follows
returns-clause-follows c = rw (← c.self.view_is) (nest_close_follows _ _ _ _)
