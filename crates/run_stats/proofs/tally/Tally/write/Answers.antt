-- each part is what its call left, up to the one that failed
use Rattle.report_text.proofs.SinkSteps.{fails_first, fails_second, takes_both, writes_after, writes_error}
use Rattle.run_stats.proofs.tally.Tally.write.Goals as goal

pub returns-in_err-write : goal.returns-in_err-write
returns-in_err-write g c =
    writes_error g.K.Sink.written g.K.Sink.failures _ _ _ _ c.from_residual.ensures.0
    (fails_first g.K.Sink.written g.K.Sink.failures _ _ _ _
    (fails_first g.K.Sink.written g.K.Sink.failures _ _ _ _ c.in_err-write.ensures))

pub returns-in_err-write_counters : goal.returns-in_err-write_counters
returns-in_err-write_counters g c =
    writes_error g.K.Sink.written g.K.Sink.failures _ _ _ _ c.from_residual-in_err-write_counters.ensures.0
    (fails_first g.K.Sink.written g.K.Sink.failures _ _ _ _
    (fails_second g.K.Sink.written g.K.Sink.failures _ _ _ _ _ c.in_ok-write.ensures
    c.in_err-write_counters.ensures))

pub returns : goal.returns
returns g c =
    writes_after g.K.Sink.written g.K.Sink.failures _ _ _ _ _ _
    (takes_both g.K.Sink.written g.K.Sink.failures _ _ _ _ _ c.in_ok-write.ensures
    c.in_ok-write_counters.ensures) c.write_condition.ensures
