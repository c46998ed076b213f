-- A new machine reads the records of the task, whose variables are placed.
use Rattle.std.proofs.Common.{refl}
use Rattle.litmus_syntax.specs.Views.{program_of, task_of}
use Rattle.prepared_program.specs.program_sites.Prepared.{sites_in}
use Rattle.task_run.specs.First.{setting_of}
use Rattle.oracle_steps.proofs.oracle_accesses.TextLemmas.{is_below, keeps_limits}
use Rattle.oracle_steps.proofs.oracle_accesses.reading.read_text.Goals as goal

pub returns : goal.returns
returns c =
    let program = c.args.program.now in
    let prepared = c.in_ok-prepared.prepared in
    let ready = c.in_ok-prepared.ensures.prepared in (
      sites_in prepared,
      ready.sites,
      λ task is. let s = setting_of program c.args.settings.now (sites_in prepared) c.args.number in
          c.read_on.ensures s (task_of task) refl
          (c.law_variables_of_programs_are_placed.ensures (program_of program) c.args.settings.now.places.items c.requires.limits ready.fit
          s c.args.number (is_below program c.args.number task is) refl)
          (keeps_limits program c.args.number task c.requires.limits is)
          (c.in_ok-run.ensures.leads c.args.settings.now task ready is),
    )
