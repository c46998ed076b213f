-- The pieces, one behind the other.
use Rattle.std.proofs.Common.{refl}
use Rattle.race_output.specs.Settings.{settings_line}
use Rattle.race_output.proofs.settings_text.settings_line.Goals as goal

pub returns : goal.returns
unfolding settings_line
returns c =
    c.build.ensures _ (c.piece-5.ensures _ _ (c.number-2.ensures _ _ (c.piece-4.ensures _ _ (c.number.ensures _ _ (c.piece-3.ensures _ _
    (c.words-2.ensures _ _ (c.piece-2.ensures _ _ (c.words.ensures _ _ (c.piece.ensures _ _ c.new.ensures refl) c.atomic_words.ensures) refl)
    c.change_words.ensures) refl) refl) refl) refl) refl)
