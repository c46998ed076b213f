-- what is told of the pair is what its sources say
use Rattle.std.proofs.Common.{◌∙◌, List, ap, refl}
use Rattle.litmus_step.specs.Runs.{run_of}
use Rattle.litmus_syntax.specs.declared.program.Variable.{Variable}
use Rattle.output_pieces.specs.Variables.{names_of}
use Rattle.prepared_program.specs.program_sites.Prepared.{sites_in}
use Rattle.race_page.proofs.page_findings.told.pair_told.Goals as goal

pub returns : goal.returns
returns c =
    let run = run_of c.args.reading.now.program c.args.settings.now (sites_in c.args.prepared.now) in
    let sources = c.requires.sources in
    let first = c.told_of-first.result in
    let second = c.told_of-second.result in
    record {
      first = c.told_of-first.ensures.told run sources;
      second = c.told_of-second.ensures.told run sources;
      variable = c.in_ok-variable.ensures
          ∙ ap (λ (own : List Variable). names_of own first.variable second.variable) sources.variables_are;
      verdict = refl;
      schedule = c.in_ok-schedule.ensures;
      picture = c.in_ok-picture.ensures;
    }
