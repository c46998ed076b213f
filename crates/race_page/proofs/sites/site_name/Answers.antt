-- The pieces, one behind the other.
use Rattle.std.proofs.Common.{refl}
use Rattle.race_page.specs.Sites.{site_name}
use Rattle.race_page.proofs.sites.site_name.Goals as goal

pub returns : goal.returns
unfolding site_name
returns c = c.build.ensures _ (c.number-2.ensures _ _ (c.piece-2.ensures _ _ (c.number.ensures _ _ (c.piece.ensures _
    _ c.new.ensures refl) refl) refl) refl)
