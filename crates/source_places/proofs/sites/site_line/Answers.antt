-- The pieces, one behind the other.
use Rattle.std.proofs.Common.{refl}
use Rattle.source_places.specs.Sites.{site_line}
use Rattle.source_places.proofs.sites.site_line.Goals as goal

pub returns : goal.returns
unfolding site_line
returns c =
    c.build.ensures _ (c.number-2.ensures _ _ (c.piece-2.ensures _ _ (c.number.ensures _ _ (c.piece.ensures _ _ c.new.ensures refl) refl)
    refl) refl)
