-- The pieces, one behind the other.
use Rattle.std.proofs.Common.{refl}
use Rattle.race_page.specs.Page.{head}
use Rattle.race_page.proofs.page.head.Goals as goal

pub returns : goal.returns
unfolding head
returns c = c.build.ensures _ (c.piece-2.ensures _ _ (c.words-2.ensures _ _ (c.piece.ensures _ _ (c.words.ensures _ _
    c.new.ensures refl) refl) refl) refl)
