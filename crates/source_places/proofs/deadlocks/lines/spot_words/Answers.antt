-- The pieces, one behind the other.
use Rattle.std.proofs.Common.{refl}
use Rattle.source_places.proofs.deadlocks.lines.spot_words.Goals as goal
use Rattle.source_places.specs.deadlocks.Lines.{spot_words}

pub returns : goal.returns
unfolding spot_words
returns c =
    c.build.ensures _ (c.text-2.ensures _ _ (c.piece-2.ensures _ _ (c.text.ensures _ _ (c.piece.ensures _ _ c.new.ensures refl)
    c.shown.ensures) refl) c.spot_text.ensures)
