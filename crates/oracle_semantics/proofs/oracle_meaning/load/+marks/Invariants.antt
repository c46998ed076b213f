-- as many marks as are still to be made
use Rattle.oracle_semantics.proofs.oracle_meaning.load.+marks.Given as goal

abbrev pub decreases-marks : goal.decreases-marks
decreases-marks l = l.count
