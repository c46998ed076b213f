-- Its task is the run's of this number.
use Rattle.std.proofs.Common.{arith, inl, inr}
use Rattle.std.proofs.lemmas.Option.{slice_get_cases}
use Rattle.litmus_step.proofs.FirstLemmas.{first_leads}
use Rattle.litmus_step.proofs.first.first_task.Goals as goal
use Rattle.prepared_program.specs.program_sites.Prepared.{sites_in}

pub returns-clause-led : goal.returns-clause-led
returns-clause-led c = λ settings prepared.
    let sites = sites_in c.args.prepared.now in
    elim (slice_get_cases c.args.program.now.tasks c.args.number).1 [
      | inl there ↦ first_leads c.args.program.now settings c.args.number there.0 sites sites c.in_ok-machine.machine there.2
          prepared.sites prepared.sites (c.in_ok-machine.ensures.leads settings there.0 prepared there.2)
      | inr beyond ↦ absurd (omega (arith, beyond.0, c.requires.there))
    ]
