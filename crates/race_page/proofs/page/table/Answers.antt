-- The pieces, one behind the other.
use Rattle.std.proofs.Common.{refl}
use Rattle.race_page.specs.Page.{table}
use Rattle.race_page.proofs.page.table.Goals as goal

pub returns : goal.returns
unfolding table
returns c = c.build.ensures _ (c.piece-4.ensures _ _ (c.text-2.ensures _ _ (c.piece-3.ensures _ _ (c.words.ensures _ _
    (c.piece-2.ensures _ _ (c.text.ensures _ _ (c.piece.ensures _ _ c.new.ensures refl) (rw c.file_counts.ensures at
    c.last_line.ensures)) refl) refl) refl) c.file_rows.ensures) refl)
