-- the search has found no common moment so far
use Rattle.std.proofs.Common.{◌<◌, ℕ}
use Rattle.access_types.specs.History.{InProgress}
use Rattle.oracle_soundness.proofs.oracle_definitions.race.go_together.Given as goal

-- at no earlier moment are both in progress
abbrev pub invariant-loop-k : goal.invariant-loop-k
invariant-loop-k l = (k : ℕ) → k < l.k → ¬ (InProgress l.history l.s k × InProgress l.history l.f k)
