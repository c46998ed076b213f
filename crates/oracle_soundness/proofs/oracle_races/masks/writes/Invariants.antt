-- no write was found so far
use Rattle.std.proofs.Common.{◌<◌, ℕ}
use Rattle.oracle_soundness.specs.oracle_races.Shown.{WritesAt}
use Rattle.oracle_soundness.proofs.oracle_races.masks.writes.Given as goal

-- at no earlier place it writes
abbrev pub invariant-loop-place : goal.invariant-loop-place
invariant-loop-place l = (k : ℕ) → k < l.place → ¬ WritesAt l.history l.a k
