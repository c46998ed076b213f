-- The pieces, one behind the other.
use Rattle.std.proofs.Common.{refl}
use Rattle.race_page.specs.Listing.{mark_end}
use Rattle.race_page.proofs.listing.mark_end.Goals as goal

pub returns : goal.returns
unfolding mark_end
returns c = c.build.ensures _ (c.piece-3.ensures _ _ (c.words-2.ensures _ _ (c.piece-2.ensures _ _ (c.words.ensures _
    _ (c.piece.ensures _ _ c.new.ensures refl) c.said_class.ensures) refl) c.said_words.ensures) refl)
