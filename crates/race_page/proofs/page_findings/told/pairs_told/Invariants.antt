-- The pairs so far are told.
use Rattle.std.proofs.Common.{map, take}
use Rattle.std.specs.List.{AllZip}
use Rattle.litmus_step.specs.Runs.{run_of}
use Rattle.race_page.specs.page_findings.Told.{IsTold}
use Rattle.prepared_program.specs.program_sites.Prepared.{sites_in}
use Rattle.race_page.proofs.page_findings.told.pairs_told.Given as goal

abbrev pub invariant-loop-one : goal.invariant-loop-one
invariant-loop-one l =
    AllZip (IsTold (run_of l.reading.program l.settings (sites_in l.prepared)) l.reading.program l.settings l.sources.text.now
    (map (λ own. own.items) l.sources.places.now)) (take l.one-index l.pairs) l.told.items
