-- The pieces, one behind the other.
use Rattle.std.proofs.Common.{refl}
use Rattle.race_page.specs.Sites.{spot_link}
use Rattle.race_page.proofs.sites.spot_link.Goals as goal

pub returns : goal.returns
unfolding spot_link
returns c = c.build.ensures _ (c.piece-4.ensures _ _ (c.text.ensures _ _ (c.piece-3.ensures _ _ (c.number-2.ensures _
    _ (c.piece-2.ensures _ _ (c.number.ensures _ _ (c.piece.ensures _ _ c.new.ensures refl) refl) refl) refl) refl)
    c.spot_text.ensures) refl)
