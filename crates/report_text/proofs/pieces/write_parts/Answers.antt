use Rattle.std.proofs.Common.{arith}
use Rattle.report_text.specs.Pieces.{text_of}
use Rattle.report_text.proofs.SinkSteps.{fails_at, writes_error}
use Rattle.report_text.proofs.pieces.write_parts.Goals as goal

pub returns-in_err-write_pieces : goal.returns-in_err-write_pieces
returns-in_err-write_pieces g c =
    writes_error g.K.Sink.written g.K.Sink.failures _ _ _ _ c.from_residual.ensures.0
    (fails_at g.K.Sink.written g.K.Sink.failures (λ part. text_of part.now) c.args.parts.now c.loop-part.part-index _ _ _ _
    (omega arith) c.loop-part.invariant c.in_err-write_pieces.ensures)
