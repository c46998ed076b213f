-- the countable accesses that the loop has passed
use Rattle.std.proofs.Common.{◌≡◌, count_by, take}
use Rattle.access_types.specs.Marked.{begins_countable}
use Rattle.oracle_soundness.proofs.oracle_definitions.marked.countable_begins.Given as goal

abbrev pub invariant-loop-moment : goal.invariant-loop-moment
invariant-loop-moment l = l.count ≡ count_by (begins_countable l.atomic l.task) (take l.moment-index l.moments)
