-- None of the tasks so far is stuck.
use Rattle.std.proofs.Common.{ℕ, ◌<◌}
use Rattle.litmus_step.proofs.world.World.nobody_is_stuck.Given as goal
use Rattle.litmus_step.specs.Steps.{IsFree, IsMachine}
use Rattle.task_run.specs.declared.run.TaskRun.{TaskRun}

abbrev pub invariant-loop-task : goal.invariant-loop-task
invariant-loop-task l = (task : ℕ) (machine : TaskRun) → task < l.task → IsMachine l.self task machine → IsFree machine
