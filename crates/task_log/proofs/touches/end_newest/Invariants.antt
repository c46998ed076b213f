use Rattle.std.proofs.Common.{◌≡◌, ◌<◌, ◌≤◌, ℕ, false, get_or, length}
use Rattle.task_log.specs.Touches.{goes_on}
use Rattle.task_log.specs.declared.touches.Touch.{Touch}
use Rattle.task_log.proofs.touches.end_newest.Given as goal

-- from here on all have ended
abbrev pub invariant-loop-left : goal.invariant-loop-left
invariant-loop-left l = record {
  same : l.touches ≡ l.fn.touches;
  within : l.left ≤ length l.touches;
  ended : (k : ℕ) (d : Touch) → l.left ≤ k → k < length l.touches → goes_on (get_or l.touches k d) ≡ false;
}

abbrev pub decreases-loop-left : goal.decreases-loop-left
decreases-loop-left l = l.left
