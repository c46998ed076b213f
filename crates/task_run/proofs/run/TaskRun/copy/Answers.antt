-- What leads to a task leads to its copy.
use Rattle.task_run.proofs.CopyLemmas.{copies_lead}
use Rattle.task_run.proofs.run.TaskRun.copy.Goals as goal
use Rattle.task_run.specs.declared.run.TaskRun.{TaskRun}

pub returns-clause-leads : goal.returns-clause-leads
returns-clause-leads c = λ s registers body records leads.
    let copy : TaskRun = record { machine = c.in_ok-machine.machine; stage = c.copy-stage.result; news = c.args.self.now.news } in
    copies_lead c.args.self.now copy c.in_ok-machine.ensures.same c.copy-stage.ensures s registers body records leads
