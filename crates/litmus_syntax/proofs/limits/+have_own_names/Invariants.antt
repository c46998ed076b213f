-- The variables after the first are fewer.
use Rattle.std.proofs.Common.{length}
use Rattle.litmus_syntax.proofs.limits.+have_own_names.Given as goal

abbrev pub decreases-have_own_names : goal.decreases-have_own_names
decreases-have_own_names l = length l.variables.now
