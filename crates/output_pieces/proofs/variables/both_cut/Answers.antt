-- The pieces, one behind the other.
use Rattle.std.proofs.Common.{refl}
use Rattle.output_pieces.proofs.variables.both_cut.Goals as goal

pub returns : goal.returns
returns c =
    c.build.ensures _ (c.text-2.ensures _ _ (c.piece.ensures _ _ (c.text.ensures _ _ c.new.ensures c.cut.ensures) refl) c.cut-2.ensures)
