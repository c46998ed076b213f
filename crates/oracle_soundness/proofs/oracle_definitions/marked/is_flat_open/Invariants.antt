-- the search has found no such flat begin so far
use Rattle.std.proofs.Common.{◌<◌, ℕ, drop}
use Rattle.oracle_soundness.proofs.oracle_definitions.Searches.{BeginsLastFlat}
use Rattle.oracle_soundness.proofs.oracle_definitions.marked.is_flat_open.Given as goal

-- the last flat mark is no begin at an earlier start
abbrev pub invariant-loop-from : goal.invariant-loop-from
invariant-loop-from l = (k : ℕ) → k < l.from → ¬ BeginsLastFlat (drop k l.marks)
