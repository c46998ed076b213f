-- A comparison stands in one of the tasks where it stands in one of those to come.
use Rattle.std.proofs.Common.{◌≡◌, drop, map}
use Rattle.litmus_syntax.specs.Views.{task_of}
use Rattle.check_warnings.specs.Comparisons.{in_tasks}
use Rattle.check_warnings.proofs.comparisons.in_tasks.Given as goal

abbrev pub invariant-loop-task : goal.invariant-loop-task
invariant-loop-task l =
    in_tasks l.variable l.contents (map task_of (drop l.task-index l.tasks)) ≡ in_tasks l.variable l.contents (map task_of l.tasks)
