-- The pieces, one behind the other.
use Rattle.std.proofs.Common.{refl}
use Rattle.race_page.specs.Pairs.{by_schedule}
use Rattle.race_page.proofs.pairs.by_schedule.Goals as goal

pub returns : goal.returns
unfolding by_schedule
returns c = c.build.ensures _ (c.piece-3.ensures _ _ (c.text.ensures _ _ (c.piece-2.ensures _ _ (c.words.ensures _ _
    (c.piece.ensures _ _ c.new.ensures refl) c.by_words.ensures) refl) c.schedule_bytes.ensures) refl)
