-- Each turn so far has its number, and there is room for the rest.
use Rattle.std.proofs.Common.{◌≡◌, ◌≤◌, ◌+◌, ℕ, Some, slice_get, vec_capacity, vec_len}
use Rattle.run_stats.proofs.made.turns_from.Given as goal
use Rattle.runner.specs.declared.run.RunIndex.{RunIndex}

abbrev pub invariant-loop-at : goal.invariant-loop-at
invariant-loop-at g l = record {
  turns : vec_len l.turns ≡ l.at;
  hooks : vec_len l.hooks ≡ l.at;
  room : l.many ≤ vec_capacity l.turns;
  room_hooks : l.many ≤ vec_capacity l.hooks;
  numbers : (at : ℕ) (turn : RunIndex) → slice_get l.turns.items at ≡ Some turn → turn.number ≡ l.number + at;
}
