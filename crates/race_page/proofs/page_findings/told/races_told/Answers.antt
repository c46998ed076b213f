-- all pairs are told
use Rattle.std.proofs.Common.{◌∙◌, List, ap, map, refl, subst}
use Rattle.std.specs.List.{AllZip}
use Rattle.litmus_step.specs.Runs.{run_of}
use Rattle.race_page.specs.page_findings.Told.{IsTold}
use Rattle.prepared_program.specs.program_sites.Prepared.{sites_in}
use Rattle.race_output.specs.Words.{verdict_of}
use Rattle.races.specs.declared.verdict.PairFound.{PairFound}
use Rattle.race_page.proofs.page_findings.told.races_told.Goals as goal

pub returns : goal.returns
returns c =
    let run = run_of c.args.reading.now.program c.args.settings.now (sites_in c.args.prepared.now) in
    record {
      pairs = subst (λ (pairs : List PairFound). AllZip (IsTold run c.args.reading.now.program c.args.settings.now c.args.sources.text.now
          (map (λ own. own.items) c.args.sources.places.now)) pairs c.in_ok-pairs.pairs.items) c.as_slice.ensures.value c.in_ok-pairs.ensures;
      verdict = c.verdict_of.ensures ∙ ap verdict_of c.as_slice-2.ensures.value;
      unwatched_states = refl;
      unwatched_stopped = refl;
      schedules = refl;
      states = refl;
      stopped = refl;
    }
