-- The pieces, one behind the other.
use Rattle.std.proofs.Common.{refl}
use Rattle.race_page.specs.Counts.{count_cell}
use Rattle.race_page.proofs.counts.count_cell.Goals as goal

pub returns : goal.returns
unfolding count_cell
returns c = c.build.ensures _ (c.piece-2.ensures _ _ (c.number.ensures _ _ (c.piece.ensures _ _ c.new.ensures refl)
    c.count_told.ensures) refl)
