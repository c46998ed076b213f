-- each part is what its call left, up to the one that failed
use Rattle.report_text.proofs.SinkSteps.{fails_first, fails_second, writes_after, writes_error}
use Rattle.picture_svg.proofs.captions.write_settings.Goals as goal

pub returns-in_err-write_all : goal.returns-in_err-write_all
returns-in_err-write_all g c =
    writes_error g.K.Sink.written g.K.Sink.failures _ _ _ _ c.from_residual.ensures.0
    (fails_first g.K.Sink.written g.K.Sink.failures _ _ _ _ c.in_err-write_all.ensures)

pub returns-in_err-write_known : goal.returns-in_err-write_known
returns-in_err-write_known g c =
    writes_error g.K.Sink.written g.K.Sink.failures _ _ _ _ c.from_residual-in_err-write_known.ensures.0
    (fails_second g.K.Sink.written g.K.Sink.failures _ _ _ _ _ c.in_ok-write_all.ensures
    (fails_first g.K.Sink.written g.K.Sink.failures _ _ _ _ (rw c.head_words.ensures at c.in_err-write_known.ensures)))

pub returns : goal.returns
returns g c =
    writes_after g.K.Sink.written g.K.Sink.failures _ _ _ _ _ _ c.in_ok-write_all.ensures
    (writes_after g.K.Sink.written g.K.Sink.failures _ _ _ _ _ _ (rw c.head_words.ensures at c.in_ok-write_known.ensures)
    c.write_all-2.ensures)
