use Rattle.std.proofs.Common.{arith}
use Rattle.report_text.specs.Pieces.{piece_text}
use Rattle.report_text.proofs.SinkSteps.{fails_at, writes_error}
use Rattle.report_text.proofs.pieces.write_pieces.Goals as goal

pub returns-in_err-write_piece : goal.returns-in_err-write_piece
returns-in_err-write_piece g c =
    writes_error g.K.Sink.written g.K.Sink.failures _ _ _ _ c.from_residual.ensures.0
    (fails_at g.K.Sink.written g.K.Sink.failures piece_text c.args.pieces.now c.loop-piece.piece-index _ _ _ _
    (omega arith) c.loop-piece.invariant c.in_err-write_piece.ensures)
