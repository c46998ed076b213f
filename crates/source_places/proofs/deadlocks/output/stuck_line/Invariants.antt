-- No such line begins before.
use Rattle.std.proofs.Common.{◌≡◌, ◌<◌, ℕ, false}
use Rattle.source_places.specs.deadlocks.Explained as spec
use Rattle.source_places.proofs.deadlocks.output.stuck_line.Given as goal

abbrev pub invariant-loop-start : goal.invariant-loop-start
invariant-loop-start l = (at : ℕ) → at < l.start → spec.begins_stuck l.output at ≡ false
