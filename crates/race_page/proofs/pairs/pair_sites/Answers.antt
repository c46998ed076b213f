-- The pieces, one behind the other.
use Rattle.std.proofs.Common.{refl}
use Rattle.race_page.specs.Pairs.{pair_sites}
use Rattle.race_page.proofs.pairs.pair_sites.Goals as goal

pub returns : goal.returns
unfolding pair_sites
returns c = c.build.ensures _ (c.piece-2.ensures _ _ (c.text-2.ensures _ _ (c.text.ensures _ _ (c.piece.ensures _ _
    c.new.ensures refl) c.site_row.ensures) c.site_row-2.ensures) refl)
