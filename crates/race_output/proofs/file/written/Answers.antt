-- The sources are those of the run.
use Rattle.std.proofs.Common.{◌∙◌, List, Vec, ap, map, sym, ℕ}
use Rattle.std.specs.Global.{Global}
use Rattle.litmus_step.specs.Runs.{run_of}
use Rattle.prepared_program.specs.program_sites.Prepared.{sites_in}
use Rattle.race_output.proofs.Sources.{are_sources}
use Rattle.race_output.specs.Results.{written}
use Rattle.race_output.specs.Table.{races_text}
use Rattle.race_output.specs.declared.file.Format.{Format}
use Rattle.race_output.proofs.file.written.Goals as goal

pub returns-in-Text : goal.returns-in-Text
returns-in-Text c =
    let program = c.args.reading.now.program in
    let settings = c.args.settings.now in
    let run = run_of program settings (sites_in c.args.prepared.now) in
    let sources = are_sources program settings c.args.prepared.now c.in_ok-sites.sites.items _ _ _ c.requires.ready
    (c.in_ok-sites.ensures.sites settings c.requires.ready) c.deref-2.ensures.value c.as_slice.ensures c.deref-3.ensures in
    c.in_ok-output-in-Text.ensures run sources
    ∙ (ap (λ (places : List (Vec ℕ Global)). races_text run c.args.text.now (map (λ own. own.items) places) settings c.args.found.now) c.deref.ensures.value
    ∙ ap (λ (format : Format). written format c.args.name.now run c.args.text.now (map (λ own. own.items) c.args.reading.now.places.items)
    settings c.args.found.now)
    (sym c.in-Text.is))
