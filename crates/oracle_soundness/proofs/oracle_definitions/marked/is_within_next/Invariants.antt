-- the search has found no such next-mark so far
use Rattle.std.proofs.Common.{◌<◌, ℕ, drop}
use Rattle.oracle_soundness.proofs.oracle_definitions.Searches.{BeginsLastNext}
use Rattle.oracle_soundness.proofs.oracle_definitions.marked.is_within_next.Given as goal

-- the last next-mark stands at no earlier start
abbrev pub invariant-loop-from : goal.invariant-loop-from
invariant-loop-from l = (k : ℕ) → k < l.from → ¬ BeginsLastNext l.atomic l.task (drop k l.moments)
