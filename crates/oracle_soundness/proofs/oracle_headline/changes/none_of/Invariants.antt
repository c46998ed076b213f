-- None of those passed is of the task.
use Rattle.std.proofs.Common.{◌≢◌, ◌<◌, ℕ, slice_index_or}
use Rattle.access_types.specs.declared.history.Moment.{Moment}
use Rattle.oracle_soundness.proofs.oracle_headline.changes.none_of.Given as goal

abbrev pub invariant-loop-moment : goal.invariant-loop-moment
invariant-loop-moment l = (k : ℕ) (d : Moment) → k < l.moment-index → (slice_index_or l.moments k d).task ≢ l.task
