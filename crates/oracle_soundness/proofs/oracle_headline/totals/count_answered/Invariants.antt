-- the answers that the loop has passed
use Rattle.std.proofs.Common.{◌≡◌, count_by, take}
use Rattle.oracle_soundness.specs.oracle_headline.Tried.{is_answer}
use Rattle.oracle_soundness.proofs.oracle_headline.totals.count_answered.Given as goal

abbrev pub invariant-loop-came : goal.invariant-loop-came
invariant-loop-came l = l.count ≡ count_by (λ came. is_answer came.outcome) (take l.came-index l.outcomes)
