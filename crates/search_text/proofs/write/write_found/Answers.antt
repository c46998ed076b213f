-- each part is what its call left, up to the one that failed
use Rattle.report_text.proofs.SinkSteps.{fails_first, fails_second, writes_after, writes_error}
use Rattle.search_text.proofs.write.write_found.Goals as goal

pub returns-in_err-write_seen : goal.returns-in_err-write_seen
returns-in_err-write_seen g c =
    writes_error g.K.Sink.written g.K.Sink.failures _ _ _ _ c.from_residual.ensures.0
    (fails_first g.K.Sink.written g.K.Sink.failures _ _ _ _ c.in_err-write_seen.ensures)

pub returns-in_err-write_bounds : goal.returns-in_err-write_bounds
returns-in_err-write_bounds g c =
    writes_error g.K.Sink.written g.K.Sink.failures _ _ _ _ c.from_residual-in_err-write_bounds.ensures.0
    (fails_second g.K.Sink.written g.K.Sink.failures _ _ _ _ _ c.in_ok-write_seen.ensures
    (fails_first g.K.Sink.written g.K.Sink.failures _ _ _ _ c.in_err-write_bounds.ensures))

pub returns : goal.returns
returns g c =
    writes_after g.K.Sink.written g.K.Sink.failures _ _ _ _ _ _ c.in_ok-write_seen.ensures
    (writes_after g.K.Sink.written g.K.Sink.failures _ _ _ _ _ _ c.in_ok-write_bounds.ensures c.write_ending.ensures)
