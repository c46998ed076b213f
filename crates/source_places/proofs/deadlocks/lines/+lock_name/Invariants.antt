-- The variables left are fewer.
use Rattle.std.proofs.Common.{length}
use Rattle.source_places.proofs.deadlocks.lines.+lock_name.Given as goal

abbrev pub decreases-lock_name : goal.decreases-lock_name
decreases-lock_name l = length l.variables.now
