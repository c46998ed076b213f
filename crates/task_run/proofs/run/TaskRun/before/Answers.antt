-- What begins with the step is told.
use Rattle.std.proofs.Common.{◌≡◌, ◌∙◌, [], Bool, ap}
use Rattle.task_run.proofs.TellLemmas.{begins_alike}
use Rattle.task_run.proofs.run.TaskRun.before.Goals as goal
use Rattle.task_run.specs.Leads.{stands_at}
use Rattle.task_run.specs.Points.{next_is}

pub returns : goal.returns
returns c = λ s registers body records leads begins steps begun made.
    let alike = begins_alike s leads.part (stands_at leads []) leads.mine c.begins.result begins (c.begins.ensures s registers body records leads []) begun in
    c.with_next.ensures steps made ∙ ap (λ (b : Bool). next_is steps c.args.step b) (c.is_some.ensures ∙ alike)
