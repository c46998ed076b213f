-- The pieces, one behind the other.
use Rattle.std.proofs.Common.{refl}
use Rattle.race_page.specs.Pairs.{pair_text}
use Rattle.race_page.proofs.pairs.pair_text.Goals as goal

pub returns : goal.returns
unfolding pair_text
returns c = c.build.ensures _ (c.piece-2.ensures _ _ (c.text-5.ensures _ _ (c.text-4.ensures _ _ (c.text-3.ensures _ _
    (c.text-2.ensures _ _ (c.text.ensures _ _ (c.piece.ensures _ _ c.new.ensures refl) c.pair_heading.ensures)
    c.pair_sites.ensures) c.why_text.ensures) c.by_text.ensures) c.picture_text.ensures) refl)
