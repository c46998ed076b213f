-- The counts, one behind the other.
use Rattle.std.proofs.Common.{refl}
use Rattle.race_output.specs.Counts.{pairs_line}
use Rattle.race_output.proofs.counts.pairs_line.Goals as goal

pub returns : goal.returns
unfolding pairs_line
returns c =
    c.build.ensures _ (c.piece.ensures _ _ (c.text-3.ensures _ _ (c.text-2.ensures _ _ (c.text.ensures _ _ c.new.ensures
    c.settled_counts.ensures) c.some_said.ensures) c.some_said-2.ensures) refl)
