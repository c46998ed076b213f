-- no change was found so far
use Rattle.std.proofs.Common.{◌<◌, ℕ}
use Rattle.oracle_soundness.specs.oracle_races.Searched.{ChangesBitsAt}
use Rattle.oracle_soundness.proofs.oracle_races.masks.changes_bits.Given as goal

-- at no earlier place a bit of the mask changes
abbrev pub invariant-loop-place : goal.invariant-loop-place
invariant-loop-place l = (k : ℕ) → k < l.place → ¬ ChangesBitsAt l.history l.a l.b l.mask k
