-- What stands behind the option in the rest stands behind it in the line.
use Rattle.std.proofs.Common.{◌≡◌, length}
use Rattle.source_places.specs.deadlocks.Explained as spec
use Rattle.source_places.proofs.deadlocks.output.behind_option.Given as goal

abbrev pub invariant-loop-rest : goal.invariant-loop-rest
invariant-loop-rest l = spec.behind_option l.rest ≡ spec.behind_option l.line

abbrev pub decreases-loop-rest : goal.decreases-loop-rest
decreases-loop-rest l = length l.rest
