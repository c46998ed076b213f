-- Those passed are true.
use Rattle.std.proofs.Common.{◌<◌, ℕ, slice_index_or}
use Rattle.oracle_soundness.specs.oracle_headline.Tried.{IsTrueOf, account_of}
use Rattle.oracle_soundness.specs.declared.oracle_headline.told.Came.{Came}
use Rattle.oracle_soundness.proofs.oracle_headline.headline.all_true.Given as goal

abbrev pub invariant-loop-came : goal.invariant-loop-came
invariant-loop-came l = (k : ℕ) (d : Came) → k < l.came-index → IsTrueOf (account_of l.told) (slice_index_or l.told.outcomes.items k d)
