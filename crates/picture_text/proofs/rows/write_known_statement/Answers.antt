-- each part is what its call left, up to the one that failed
use Rattle.report_text.proofs.SinkSteps.{fails_first, fails_second, writes_after, writes_error}
use Rattle.picture_text.proofs.rows.write_known_statement.Goals as goal

pub returns-in_err-write_bars : goal.returns-in_err-write_bars
returns-in_err-write_bars g c =
    writes_error g.K.Sink.written g.K.Sink.failures _ _ _ _ c.from_residual.ensures.0
    (fails_first g.K.Sink.written g.K.Sink.failures _ _ _ _ c.in_err-write_bars.ensures)

pub returns-in_err-write_all : goal.returns-in_err-write_all
returns-in_err-write_all g c =
    writes_error g.K.Sink.written g.K.Sink.failures _ _ _ _ c.from_residual-in_err-write_all.ensures.0
    (fails_second g.K.Sink.written g.K.Sink.failures _ _ _ _ _ c.in_ok-write_bars.ensures
    (fails_first g.K.Sink.written g.K.Sink.failures _ _ _ _ c.in_err-write_all.ensures))

pub returns-in_err-write_shortened : goal.returns-in_err-write_shortened
returns-in_err-write_shortened g c =
    writes_error g.K.Sink.written g.K.Sink.failures _ _ _ _ c.from_residual-in_err-write_shortened.ensures.0
    (fails_second g.K.Sink.written g.K.Sink.failures _ _ _ _ _ c.in_ok-write_bars.ensures
    (fails_second g.K.Sink.written g.K.Sink.failures _ _ _ _ _ c.in_ok-write_all.ensures
    (fails_first g.K.Sink.written g.K.Sink.failures _ _ _ _ c.in_err-write_shortened.ensures)))

pub returns : goal.returns
returns g c =
    writes_after g.K.Sink.written g.K.Sink.failures _ _ _ _ _ _ c.in_ok-write_bars.ensures
    (writes_after g.K.Sink.written g.K.Sink.failures _ _ _ _ _ _ c.in_ok-write_all.ensures
    (writes_after g.K.Sink.written g.K.Sink.failures _ _ _ _ _ _ c.in_ok-write_shortened.ensures
    c.write_all-2.ensures))
