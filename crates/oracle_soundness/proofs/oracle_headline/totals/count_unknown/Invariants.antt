-- the changes of unknown origin that the loop has passed
use Rattle.std.proofs.Common.{◌≡◌, take}
use Rattle.oracle_soundness.specs.oracle_headline.Tried.{came_so}
use Rattle.task_log.specs.Counters.{is_unknown}
use Rattle.oracle_soundness.proofs.oracle_headline.totals.count_unknown.Given as goal

abbrev pub invariant-loop-came : goal.invariant-loop-came
invariant-loop-came l = l.count ≡ came_so is_unknown (take l.came-index l.outcomes)
