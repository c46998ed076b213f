-- None of the bytes so far is a line feed.
use Rattle.std.proofs.Common.{◌≡◌, ◌≤◌, ◌<◌, ℕ, get_or}
use Rattle.source_places.proofs.deadlocks.output.line_end.Given as goal

abbrev pub invariant-loop-at : goal.invariant-loop-at
invariant-loop-at l = (k : ℕ) → l.start ≤ k → k < l.at → get_or l.output k 0 ≡ 10 → ⊥
