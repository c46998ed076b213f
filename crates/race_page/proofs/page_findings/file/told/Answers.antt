-- The sources are those of the run.
use Rattle.std.proofs.Common.{List, Vec, map, subst, ℕ}
use Rattle.std.specs.Global.{Global}
use Rattle.litmus_step.specs.Runs.{run_of}
use Rattle.race_page.specs.page_findings.Told.{AreTold}
use Rattle.prepared_program.specs.program_sites.Prepared.{sites_in}
use Rattle.race_output.proofs.Sources.{are_sources}
use Rattle.race_page.proofs.page_findings.file.told.Goals as goal

pub races_told-requires-clause-sources : goal.races_told-requires-clause-sources
races_told-requires-clause-sources c =
    are_sources c.args.reading.now.program c.args.settings.now c.args.prepared.now c.in_ok-sites.sites.items _ _ _ c.requires.ready
    (c.in_ok-sites.ensures.sites c.args.settings.now c.requires.ready) c.deref-2.ensures.value c.as_slice.ensures c.deref-3.ensures

pub returns : goal.returns
returns c =
    let run = run_of c.args.reading.now.program c.args.settings.now (sites_in c.args.prepared.now) in
    subst (λ (places : List (Vec ℕ Global)). AreTold run c.args.reading.now.program c.args.settings.now c.args.text.now (map (λ own. own.items) places)
    c.args.found.now c.in_ok-told.told) c.deref.ensures.value c.in_ok-told.ensures
