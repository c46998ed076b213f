-- By the task of a program that is made ready.
use Rattle.task_run.proofs.run.TaskRun.new.Goals as goal
use Rattle.prepared_program.specs.program_sites.Prepared.{sites_in}

pub returns-clause-leads : goal.returns-clause-leads
returns-clause-leads c =
    let ready = c.in_ok-prepared.ensures.prepared in
    (sites_in c.in_ok-prepared.prepared, ready.sites, λ task is. c.in_ok-run.ensures.leads c.args.settings.now task ready is)
