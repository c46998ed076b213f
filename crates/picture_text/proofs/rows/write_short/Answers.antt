-- each part is what its call left, up to the one that failed
use Rattle.report_text.proofs.SinkSteps.{fails_first, fails_second, writes_after, writes_error}
use Rattle.picture_text.proofs.rows.write_short.Goals as goal

pub returns-in_err-write_begins : goal.returns-in_err-write_begins
returns-in_err-write_begins g c =
    writes_error g.K.Sink.written g.K.Sink.failures _ _ _ _ c.from_residual.ensures.0
    (fails_first g.K.Sink.written g.K.Sink.failures _ _ _ _ c.in_err-write_begins.ensures)

pub returns-in_err-write_first : goal.returns-in_err-write_first
returns-in_err-write_first g c =
    writes_error g.K.Sink.written g.K.Sink.failures _ _ _ _ c.from_residual-in_err-write_first.ensures.0
    (fails_second g.K.Sink.written g.K.Sink.failures _ _ _ _ _ c.in_ok-write_begins.ensures
    (fails_first g.K.Sink.written g.K.Sink.failures _ _ _ _ c.in_err-write_first.ensures))

pub returns : goal.returns
returns g c =
    writes_after g.K.Sink.written g.K.Sink.failures _ _ _ _ _ _ c.in_ok-write_begins.ensures
    (writes_after g.K.Sink.written g.K.Sink.failures _ _ _ _ _ _ c.in_ok-write_first.ensures
    (rw c.site_words-site.ensures at c.write_parts.ensures))
