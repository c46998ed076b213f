-- None of the tasks before holds the lock.
use Rattle.std.proofs.Common.{◌≡◌, ◌+◌, ◌<◌, ℕ, Some, slice_get}
use Rattle.source_places.proofs.deadlocks.waits.holder_among.Given as goal

abbrev pub invariant-loop-task : goal.invariant-loop-task
invariant-loop-task l = (k : ℕ) → k < l.task → slice_get l.board.locks l.lock ≡ Some (1 + k) → ⊥
