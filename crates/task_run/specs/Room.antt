-- What a task can hold before it takes memory.
use Rattle.std.specs.Prelude.{◌++◌, ◌∷◌, ℕ, List}
use Rattle.setup_access.specs.Shown as checker
use Rattle.task_plan.specs.Room as progress
use Rattle.task_run.specs.declared.machine.Machine.{Machine}
use Rattle.task_run.specs.declared.run.TaskRun.{TaskRun}
use Rattle.task_plan.specs.Capacity as walk

-- of each list below it, how much
abbrev pub room_of : Machine → List ℕ
room_of machine = walk.room_of machine.walk ∷ (progress.room_of machine.progress ++ checker.room_of machine.checker)

abbrev pub task_room : TaskRun → List ℕ
task_room run = room_of run.machine
