-- The pieces, one behind the other.
use Rattle.std.proofs.Common.{◌∙◌, ap, refl}
use Rattle.race_page.specs.Counts.{searched_text}
use Rattle.race_page.specs.Counts.{stopped_words}
use Rattle.race_page.proofs.counts.searched_text.Goals as goal

pub returns : goal.returns
unfolding searched_text
returns c = c.build.ensures _ (c.piece-6.ensures _ _ (c.words-2.ensures _ _ (c.piece-5.ensures _ _ (c.number-3.ensures
    _ _ (c.piece-4.ensures _ _ (c.number-2.ensures _ _ (c.piece-3.ensures _ _ (c.words.ensures _ _ (c.piece-2.ensures
    _ _ (c.number.ensures _ _ (c.piece.ensures _ _ c.new.ensures refl) refl) refl) (c.stopped_words.ensures ∙ ap
    stopped_words c.is_stopped.ensures)) refl) refl) refl) refl) refl) (c.stopped_words-2.ensures ∙ ap stopped_words
    c.is_stopped-2.ensures)) refl)
