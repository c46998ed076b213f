-- The counts, behind the first word.
use Rattle.std.proofs.Common.{refl}
use Rattle.race_output.specs.Several.{last_line}
use Rattle.race_output.proofs.several.last_line.Goals as goal

pub returns : goal.returns
unfolding last_line
returns c =
    c.build.ensures _ (c.text-3.ensures _ _ (c.text-2.ensures _ _ (c.text.ensures _ _ (c.piece.ensures _ _ c.new.ensures refl)
    c.searched_counts.ensures) c.counted.ensures) c.counted-2.ensures)
