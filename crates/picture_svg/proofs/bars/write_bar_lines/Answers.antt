-- each part is what its call left, up to the one that failed
use Rattle.report_text.proofs.SinkSteps.{fails_first, fails_second, writes_after, writes_error}
use Rattle.picture_svg.proofs.bars.write_bar_lines.Goals as goal

pub returns-in_err-write_parts : goal.returns-in_err-write_parts
returns-in_err-write_parts g c =
    writes_error g.K.Sink.written g.K.Sink.failures _ _ _ _ c.from_residual.ensures.0
    (fails_first g.K.Sink.written g.K.Sink.failures _ _ _ _ (rw (c.bar_rect-rect.ensures, c.line_start-first.ensures) at c.in_err-write_parts.ensures))

pub returns-in_err-write_first : goal.returns-in_err-write_first
returns-in_err-write_first g c =
    writes_error g.K.Sink.written g.K.Sink.failures _ _ _ _ c.from_residual-in_err-write_first.ensures.0
    (fails_second g.K.Sink.written g.K.Sink.failures _ _ _ _ _ (rw (c.bar_rect-rect.ensures, c.line_start-first.ensures) at c.in_ok-write_parts.ensures)
    (fails_first g.K.Sink.written g.K.Sink.failures _ _ _ _ c.in_err-write_first.ensures))

pub returns : goal.returns
returns g c =
    writes_after g.K.Sink.written g.K.Sink.failures _ _ _ _ _ _ (rw (c.bar_rect-rect.ensures, c.line_start-first.ensures) at c.in_ok-write_parts.ensures)
    (writes_after g.K.Sink.written g.K.Sink.failures _ _ _ _ _ _ c.in_ok-write_first.ensures
    (rw (c.line_start-second.ensures, c.site_words-site.ensures) at c.write_parts-2.ensures))
