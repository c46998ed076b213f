-- The pieces, one behind the other.
use Rattle.std.proofs.Common.{refl}
use Rattle.race_page.specs.Sites.{site_row}
use Rattle.race_page.proofs.sites.site_row.Goals as goal

pub returns : goal.returns
unfolding site_row
returns c = c.build.ensures _ (c.piece-5.ensures _ _ (c.text-3.ensures _ _ (c.piece-4.ensures _ _ (c.words-2.ensures _
    _ (c.piece-3.ensures _ _ (c.text-2.ensures _ _ (c.piece-2.ensures _ _ (c.text.ensures _ _ (c.piece.ensures _ _
    c.new.ensures refl) c.site_name.ensures) refl) (rw c.place_within-at.ensures.place at c.spot.ensures)) refl)
    c.words.ensures) refl) (rw c.place_within-at.ensures.place at c.statement.ensures)) refl)
