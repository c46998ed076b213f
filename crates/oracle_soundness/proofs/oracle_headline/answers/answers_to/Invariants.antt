-- the answers that the loop has passed
use Rattle.std.proofs.Common.{◌≡◌, count_by, take}
use Rattle.oracle_soundness.specs.oracle_headline.Tried.{answers}
use Rattle.oracle_soundness.proofs.oracle_headline.answers.answers_to.Given as goal

abbrev pub invariant-loop-came : goal.invariant-loop-came
invariant-loop-came l = l.count ≡ count_by (answers l.index l.number) (take l.came-index l.told.outcomes.items)
