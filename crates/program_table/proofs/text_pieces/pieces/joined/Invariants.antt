-- The pieces so far are joined.
use Rattle.std.proofs.Common.{◌≡◌, take}
use Rattle.std.specs.List.{flat_map}
use Rattle.program_table.proofs.text_pieces.pieces.joined.Given as goal

abbrev pub invariant-loop-piece : goal.invariant-loop-piece
invariant-loop-piece l = l.text.items ≡ flat_map (λ piece. piece.now) (take l.piece-index l.pieces)
