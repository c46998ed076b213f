-- There are fewer accesses behind the first.
use Rattle.std.proofs.Common.{length}
use Rattle.run_output.proofs.masks.+masks_are_low.Given as goal

abbrev pub decreases-masks_are_low : goal.decreases-masks_are_low
decreases-masks_are_low l = length l.accesses.now
