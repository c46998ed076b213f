-- What a task keeps of its last steps.
use Rattle.std.specs.Prelude.{◌≡◌, List}
use Rattle.task_run.specs.declared.run.TaskRun.{TaskRun}
pub use Rattle.task_plan.specs.task_points.Points.{Stepped, kept_by, last_was, next_is}

-- a task that made these steps
abbrev pub HasMade : List Stepped → TaskRun → Type 0
HasMade steps run = run.news.latest ≡ kept_by steps
