-- The counts, one behind the other.
use Rattle.race_output.specs.Counts.{settled_counts}
use Rattle.race_output.proofs.counts.settled_counts.Goals as goal

pub returns : goal.returns
unfolding settled_counts
returns c =
    c.build.ensures _ (c.text-5.ensures _ _ (c.text-4.ensures _ _ (c.text-3.ensures _ _ (c.text-2.ensures _ _ (c.text.ensures _ _
    c.new.ensures c.counted.ensures) c.said_text.ensures) c.said_text-2.ensures) c.said_text-3.ensures) c.said_text-4.ensures)
