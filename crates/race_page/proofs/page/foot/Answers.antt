-- The pieces, one behind the other.
use Rattle.std.proofs.Common.{refl}
use Rattle.race_page.specs.Page.{foot}
use Rattle.race_page.proofs.page.foot.Goals as goal

pub returns : goal.returns
unfolding foot
returns c = c.build.ensures _ (c.piece-4.ensures _ _ (c.text-2.ensures _ _ (c.piece-3.ensures _ _ (c.text.ensures _ _
    (c.piece-2.ensures _ _ (c.words.ensures _ _ (c.piece.ensures _ _ c.new.ensures refl) refl) refl)
    c.settings_line.ensures) refl) (rw c.as_bytes.ensures.value at c.escaped.ensures)) refl)
