-- The counts, behind the first word.
use Rattle.std.proofs.Common.{refl}
use Rattle.race_output.specs.Counts.{searched_line}
use Rattle.race_output.proofs.counts.searched_line.Goals as goal

pub returns : goal.returns
unfolding searched_line
returns c =
    c.build.ensures _ (c.text-3.ensures _ _ (c.text-2.ensures _ _ (c.text.ensures _ _ (c.piece.ensures _ _ c.new.ensures refl)
    c.counted-unwatched.ensures) c.counted-schedules.ensures) c.counted-states.ensures)
