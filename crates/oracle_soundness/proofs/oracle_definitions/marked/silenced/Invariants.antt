-- the search has found no silenced begin so far
use Rattle.std.proofs.Common.{◌<◌, ℕ}
use Rattle.oracle_soundness.proofs.oracle_definitions.Searches.{IsSilencedAt}
use Rattle.oracle_soundness.proofs.oracle_definitions.marked.silenced.Given as goal

-- it begins after no fewer moments and is silenced there
abbrev pub invariant-loop-k : goal.invariant-loop-k
invariant-loop-k l = (k : ℕ) → k < l.k → ¬ IsSilencedAt l.history l.a k
