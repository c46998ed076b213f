-- The pieces, one behind the other.
use Rattle.std.proofs.Common.{refl}
use Rattle.race_page.specs.Verdicts.{strong}
use Rattle.race_page.proofs.verdicts.strong.Goals as goal

pub returns : goal.returns
unfolding strong
returns c = c.build.ensures _ (c.piece-3.ensures _ _ (c.words-2.ensures _ _ (c.piece-2.ensures _ _ (c.words.ensures _
    _ (c.piece.ensures _ _ c.new.ensures refl) refl) refl) refl) refl)
