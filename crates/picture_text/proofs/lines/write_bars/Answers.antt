-- each part is what its call left, up to the one that failed
use Rattle.report_text.proofs.SinkSteps.{fails_first, writes_after, writes_error}
use Rattle.picture_text.proofs.lines.write_bars.Goals as goal

pub returns-in_err-write_margin : goal.returns-in_err-write_margin
returns-in_err-write_margin g c =
    writes_error g.K.Sink.written g.K.Sink.failures _ _ _ _ c.from_residual.ensures.0
    (fails_first g.K.Sink.written g.K.Sink.failures _ _ _ _ c.in_err-write_margin.ensures)

pub returns : goal.returns
returns g c =
    writes_after g.K.Sink.written g.K.Sink.failures _ _ _ _ _ _ c.in_ok-write_margin.ensures
    c.write_cells.ensures
