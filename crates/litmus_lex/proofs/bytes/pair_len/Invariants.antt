-- The pair stands nowhere before `at`.
use Rattle.std.proofs.Common.{ℕ, suc, ◌<◌}
use Rattle.litmus_lex.proofs.Runs.{IsPairAt}
use Rattle.litmus_lex.proofs.bytes.pair_len.Given as goal

abbrev pub invariant-loop-at : goal.invariant-loop-at
invariant-loop-at l = (k : ℕ) → suc k < l.at → IsPairAt l.first l.second l.bytes k → ⊥
