-- Two of the values that a task has loaded: the old value of its watch, and what its access has read or its next exchange compares its cell
-- with; 0 where there is none.
use Rattle.std.specs.Prelude.{ℕ}
use Rattle.access_run.specs.Loaded.{access_loaded}
use Rattle.setup_access.specs.OldValue.{stage_old}
use Rattle.task_run.specs.declared.run.TaskRun.{TaskRun}
use Rattle.task_run.specs.declared.stage.TaskStage.{TaskStage}
use Rattle.task_run.specs.declared.stage.TaskStage.TheVariants as stages

abbrev pub part_loaded : TaskStage → ℕ
part_loaded stages.Over = 0
part_loaded stages.Stopped = 0
part_loaded (stages.Making access kept) = access_loaded access.stage
part_loaded stages.Opening = 0
part_loaded stages.Closing = 0
part_loaded (stages.Locking wait variable) = 0
part_loaded (stages.Unlocking variable) = 0

abbrev pub values_loaded : TaskRun → ℕ × ℕ
values_loaded run = (stage_old run.machine.checker.stage, part_loaded run.stage)
