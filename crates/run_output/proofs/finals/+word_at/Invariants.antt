-- The cells left are fewer.
use Rattle.std.proofs.Common.{length}
use Rattle.run_output.proofs.finals.+word_at.Given as goal

abbrev pub decreases-word_at : goal.decreases-word_at
decreases-word_at l = length l.cells.now
