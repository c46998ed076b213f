-- the search has found no raised ending part so far
use Rattle.std.proofs.Common.{◌<◌, ◌≤◌, ℕ, count_by, drop}
use Rattle.oracle_soundness.specs.oracle_definitions.Kinds.{is_of}
use Rattle.oracle_soundness.proofs.oracle_definitions.marked.ends_raised.Given as goal

-- no part from an earlier start on has more that raise
abbrev pub invariant-loop-from : goal.invariant-loop-from
invariant-loop-from l =
    (k : ℕ) → k < l.from → count_by (is_of l.raises) (drop k l.marks) ≤ count_by (is_of l.lowers)
    (drop k l.marks)
