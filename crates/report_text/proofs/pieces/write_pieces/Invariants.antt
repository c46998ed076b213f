-- the pieces so far are written
use Rattle.std.proofs.Common.{take}
use Rattle.report_text.specs.Pieces.{text_of}
use Rattle.report_text.specs.Sink.{Takes}
use Rattle.report_text.proofs.pieces.write_pieces.Given as goal

abbrev pub invariant-loop-piece : goal.invariant-loop-piece
invariant-loop-piece g l =
    Takes g.K.Sink.written g.K.Sink.failures (text_of (take l.piece-index l.pieces)) l.fn.sink l.sink
