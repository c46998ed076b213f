-- The pieces, one behind the other.
use Rattle.std.proofs.Common.{refl}
use Rattle.source_places.proofs.deadlocks.lines.wait_line.Goals as goal
use Rattle.source_places.specs.deadlocks.Lines.{wait_line}

pub returns : goal.returns
unfolding wait_line
returns c = λ own place.
    c.build.ensures _ (c.piece-4.ensures _ _ (c.number-2.ensures _ _ (c.piece-3.ensures _ _ (c.text.ensures _ _ (c.words.ensures _ _
    (c.piece-2.ensures _ _ (c.number.ensures _ _ (c.piece.ensures _ _ c.new.ensures refl) refl) refl) refl) place) refl) refl) refl)
