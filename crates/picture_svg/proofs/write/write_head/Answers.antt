-- each part is what its call left, up to the one that failed
use Rattle.report_text.proofs.SinkSteps.{fails_first, fails_second, writes_after, writes_error}
use Rattle.picture_svg.proofs.write.write_head.Goals as goal

pub returns-in_err-write_front : goal.returns-in_err-write_front
returns-in_err-write_front g c =
    writes_error g.K.Sink.written g.K.Sink.failures _ _ _ _ c.from_residual.ensures.0
    (fails_first g.K.Sink.written g.K.Sink.failures _ _ _ _ c.in_err-write_front.ensures)

pub returns-in_err-write_headings : goal.returns-in_err-write_headings
returns-in_err-write_headings g c =
    writes_error g.K.Sink.written g.K.Sink.failures _ _ _ _ c.from_residual-in_err-write_headings.ensures.0
    (fails_second g.K.Sink.written g.K.Sink.failures _ _ _ _ _ c.in_ok-write_front.ensures
    (fails_first g.K.Sink.written g.K.Sink.failures _ _ _ _ (rw c.deref.ensures.value at c.in_err-write_headings.ensures)))

pub returns : goal.returns
returns g c =
    writes_after g.K.Sink.written g.K.Sink.failures _ _ _ _ _ _ c.in_ok-write_front.ensures
    (writes_after g.K.Sink.written g.K.Sink.failures _ _ _ _ _ _ (rw c.deref.ensures.value at c.in_ok-write_headings.ensures)
    c.write_all.ensures)
