-- the search has found no begin that counts so far
use Rattle.std.proofs.Common.{◌<◌, ℕ}
use Rattle.oracle_soundness.proofs.oracle_definitions.Searches.{CountsAt}
use Rattle.oracle_soundness.proofs.oracle_definitions.marked.counted_as_marked.Given as goal

-- it begins after no fewer moments and counts as marked there
abbrev pub invariant-loop-k : goal.invariant-loop-k
invariant-loop-k l = (k : ℕ) → k < l.k → ¬ CountsAt l.atomic l.history l.a k
