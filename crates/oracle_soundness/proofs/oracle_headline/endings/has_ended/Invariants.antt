-- None of those passed ends such an access.
use Rattle.std.proofs.Common.{◌<◌, ℕ, slice_index_or}
use Rattle.access_types.specs.declared.history.Moment.{Moment}
use Rattle.oracle_soundness.specs.oracle_headline.Tried.{EndsGoing}
use Rattle.oracle_soundness.proofs.oracle_headline.endings.has_ended.Given as goal

abbrev pub invariant-loop-moment : goal.invariant-loop-moment
invariant-loop-moment l = (k : ℕ) (d : Moment) → k < l.moment-index → ¬ EndsGoing l.history l.task l.count (slice_index_or l.history k d)
