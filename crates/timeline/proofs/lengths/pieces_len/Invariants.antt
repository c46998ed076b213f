-- as long as those so far
use Rattle.std.proofs.Common.{◌≡◌, take}
use Rattle.report_text.specs.Pieces.{text_of}
use Rattle.timeline.specs.Lengths.{len_of}
use Rattle.timeline.proofs.lengths.pieces_len.Given as goal

abbrev pub invariant-loop-piece : goal.invariant-loop-piece
invariant-loop-piece l = l.len ≡ len_of (text_of (take l.piece-index l.pieces))
