-- each part is what its call left, up to the one that failed
use Rattle.report_text.proofs.SinkSteps.{fails_first, writes_after, writes_error}
use Rattle.picture_text.proofs.lines.write_line.Goals as goal

pub returns-in_err-write_bars : goal.returns-in_err-write_bars
returns-in_err-write_bars g c =
    writes_error g.K.Sink.written g.K.Sink.failures _ _ _ _ c.from_residual.ensures.0
    (fails_first g.K.Sink.written g.K.Sink.failures _ _ _ _ c.in_err-write_bars.ensures)

pub returns : goal.returns
returns g c =
    writes_after g.K.Sink.written g.K.Sink.failures _ _ _ _ _ _ c.in_ok-write_bars.ensures
    c.write_parts.ensures
