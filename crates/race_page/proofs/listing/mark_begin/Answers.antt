-- The pieces, one behind the other.
use Rattle.std.proofs.Common.{refl}
use Rattle.race_page.specs.Listing.{mark_begin}
use Rattle.race_page.proofs.listing.mark_begin.Goals as goal

pub returns : goal.returns
unfolding mark_begin
returns c = c.build.ensures _ (c.piece-4.ensures _ _ (c.number-2.ensures _ _ (c.piece-3.ensures _ _ (c.number.ensures
    _ _ (c.piece-2.ensures _ _ (c.words.ensures _ _ (c.piece.ensures _ _ c.new.ensures refl) c.said_class.ensures)
    refl) refl) refl) refl) refl)
