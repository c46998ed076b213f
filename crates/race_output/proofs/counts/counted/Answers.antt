-- The pieces, one behind the other.
use Rattle.std.proofs.Common.{refl}
use Rattle.race_output.specs.Counts.{counted}
use Rattle.race_output.proofs.counts.counted.Goals as goal

pub returns : goal.returns
unfolding counted
returns c = c.build.ensures _ (c.words.ensures _ _ (c.number.ensures _ _ c.new.ensures refl) refl)
