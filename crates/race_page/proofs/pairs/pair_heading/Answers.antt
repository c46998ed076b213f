-- The pieces, one behind the other.
use Rattle.std.proofs.Common.{refl}
use Rattle.race_page.specs.Pairs.{pair_heading}
use Rattle.race_page.proofs.pairs.pair_heading.Goals as goal

pub returns : goal.returns
unfolding pair_heading
returns c = c.build.ensures _ (c.piece-3.ensures _ _ (c.text-2.ensures _ _ (c.piece-2.ensures _ _ (c.text.ensures _ _
    (c.piece.ensures _ _ c.new.ensures refl) (rw c.said_of.ensures at c.said_text.ensures)) refl) (rw
    c.deref.ensures.value at c.escaped.ensures)) refl)
