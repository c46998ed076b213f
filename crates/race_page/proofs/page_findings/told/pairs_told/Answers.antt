-- one pair more is told
use Rattle.std.proofs.Common.{arith, map}
use Rattle.litmus_step.specs.Runs.{run_of}
use Rattle.race_page.specs.page_findings.Told.{IsTold}
use Rattle.prepared_program.specs.program_sites.Prepared.{sites_in}
use Rattle.timeline.proofs.picture.Zips.{zip_item}
use Rattle.race_page.proofs.page_findings.told.pairs_told.Goals as goal

pub loop-one-preserved : goal.loop-one-preserved
loop-one-preserved c = rw c.in_ok-push.ensures.items
    (zip_item (IsTold (run_of c.args.reading.now.program c.args.settings.now (sites_in c.args.prepared.now)) c.args.reading.now.program c.args.settings.now
    c.args.sources.text.now (map (λ own. own.items) c.args.sources.places.now)) c.args.pairs.now c.loop-one.told.items
    c.loop-one.one-index c.one-item.result _ (omega arith) c.one-item.is c.loop-one.invariant c.in_ok-it.ensures)
