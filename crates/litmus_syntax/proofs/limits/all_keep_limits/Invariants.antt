-- Each task before this one keeps the limits.
use Rattle.std.proofs.Common.{◌<◌, ℕ, get_or}
use Rattle.litmus_syntax.specs.Limits.{TaskKeepsLimits}
use Rattle.litmus_syntax.specs.Views.{task_of}
use Rattle.litmus_syntax.specs.declared.program.Task.{Task}
use Rattle.litmus_syntax.proofs.limits.all_keep_limits.Given as goal

abbrev pub invariant-loop-task : goal.invariant-loop-task
invariant-loop-task l =
    (k : ℕ) (d : Task) → k < l.task-index → TaskKeepsLimits l.variables (task_of (get_or l.tasks k d))
