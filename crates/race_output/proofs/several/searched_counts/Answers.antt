-- The counts, one behind the other.
use Rattle.race_output.specs.Several.{searched_counts}
use Rattle.race_output.proofs.several.searched_counts.Goals as goal

pub returns : goal.returns
unfolding searched_counts
returns c =
    c.build.ensures _ (c.text-3.ensures _ _ (c.text-2.ensures _ _ (c.text.ensures _ _ c.new.ensures c.counted.ensures)
    c.counted-2.ensures) c.counted-3.ensures)
