-- So far these are the calls of the tasks before this one.
use Rattle.std.proofs.Common.{◌≡◌}
use Rattle.runner.proofs.together.calls_of.Given as goal
use Rattle.runner.specs.TaskResult.{calls_below}

abbrev pub invariant-loop-one : goal.invariant-loop-one
invariant-loop-one l = l.unbalanced ≡ calls_below l.found l.one-index
