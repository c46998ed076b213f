-- each part is what its call left, up to the one that failed
use Rattle.report_text.proofs.SinkSteps.{fails_first, fails_second, writes_after, writes_error}
use Rattle.timeline.proofs.picture.told.write_first.Goals as goal

pub returns-in_err-write_pieces : goal.returns-in_err-write_pieces
returns-in_err-write_pieces g c =
    writes_error g.K.Sink.written g.K.Sink.failures _ _ _ _ c.from_residual.ensures.0
    (fails_first g.K.Sink.written g.K.Sink.failures _ _ _ _ (rw c.doing-doing.ensures at c.in_err-write_pieces.ensures))

pub returns-in_err-write_object : goal.returns-in_err-write_object
returns-in_err-write_object g c =
    writes_error g.K.Sink.written g.K.Sink.failures _ _ _ _ c.from_residual-in_err-write_object.ensures.0
    (fails_second g.K.Sink.written g.K.Sink.failures _ _ _ _ _ (rw c.doing-doing.ensures at c.in_ok-write_pieces.ensures)
    (fails_first g.K.Sink.written g.K.Sink.failures _ _ _ _ c.in_err-write_object.ensures))

pub returns : goal.returns
returns g c =
    writes_after g.K.Sink.written g.K.Sink.failures _ _ _ _ _ _ (rw c.doing-doing.ensures at c.in_ok-write_pieces.ensures)
    (writes_after g.K.Sink.written g.K.Sink.failures _ _ _ _ _ _ c.in_ok-write_object.ensures
    (rw c.size_words-size.ensures at c.write_parts.ensures))
