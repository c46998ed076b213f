-- So far these are the reports of the tasks before this one.
use Rattle.std.proofs.Common.{◌≡◌, flat_map, take}
use Rattle.runner.proofs.together.reports_of.Given as goal
use Rattle.runner.specs.declared.seated.TaskResult.{TaskResult}

abbrev pub invariant-loop-one : goal.invariant-loop-one
invariant-loop-one l = l.reports.items ≡ flat_map (λ (one : TaskResult). one.reports.items) (take l.one-index l.found)
