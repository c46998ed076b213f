-- each part is what its call left, up to the one that failed
use Rattle.std.proofs.Common.{◌+◌, ◌++◌, Bool, ap, sym}
use Rattle.report_text.proofs.SinkSteps.{writes_after, writes_same}
use Rattle.run_stats.specs.Output.{found_text, stuck_text}
use Rattle.run_stats.proofs.made.Made.write.Goals as goal

pub returns-in-true : goal.returns-in-true
returns-in-true g c =
    let made = c.args.self.now in
    let found = found_text made.tally.groups made.tally.counters made.tally.unbalanced made.tally.held made.ended in
    writes_same g.K.Sink.written g.K.Sink.failures _ _ _ _ _
    (ap (λ (counted : Bool). found ++ stuck_text counted made.stuck (made.ended + made.stuck)) (sym c.in-true.is))
    (writes_after g.K.Sink.written g.K.Sink.failures _ _ _ _ _ _ c.in_ok-write.ensures c.write_stuck.ensures)
