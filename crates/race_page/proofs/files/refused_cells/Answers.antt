-- The pieces, one behind the other.
use Rattle.std.proofs.Common.{refl}
use Rattle.race_page.specs.Files.{refused_cells}
use Rattle.race_page.proofs.files.refused_cells.Goals as goal

pub returns : goal.returns
unfolding refused_cells
returns c = c.build.ensures _ (c.piece-3.ensures _ _ (c.text-2.ensures _ _ (c.piece-2.ensures _ _ (c.text.ensures _ _
    (c.piece.ensures _ _ c.new.ensures refl) c.strong.ensures) refl) c.escaped.ensures) refl)
