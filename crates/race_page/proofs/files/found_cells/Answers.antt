-- The pieces, one behind the other.
use Rattle.std.proofs.Common.{refl}
use Rattle.race_page.specs.Files.{found_cells}
use Rattle.race_page.proofs.files.found_cells.Goals as goal

pub returns : goal.returns
unfolding found_cells
returns c = c.build.ensures _ (c.text-2.ensures _ _ (c.piece-2.ensures _ _ (c.text.ensures _ _ (c.piece.ensures _ _
    c.new.ensures refl) c.file_text.ensures) refl) (rw c.deref.ensures.value at c.count_cells.ensures))
