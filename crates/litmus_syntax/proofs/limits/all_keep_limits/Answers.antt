-- Each task was looked at.
use Rattle.std.proofs.Common.{◌≤◌, arith, length}
use Rattle.std.proofs.lemmas.List.Elements.{All-map}
use Rattle.litmus_syntax.specs.Limits.{TaskKeepsLimits}
use Rattle.litmus_syntax.specs.Views.{task_of}
use Rattle.litmus_syntax.proofs.limits.all_keep_limits.Goals as goal

pub returns : goal.returns
returns c =
    λ is. All-map (TaskKeepsLimits c.args.variables.now) task_of c.args.tasks.now
    (λ k d below. c.loop-task.invariant k d (let past : length c.args.tasks.now ≤ c.loop-task.task-index = c.loop-task-test.false in omega (arith, past, below)))
