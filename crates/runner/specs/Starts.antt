-- Tasks before their first steps, and what comes of them.
use Rattle.std.specs.Prelude.{◌≡◌, ◌<◌, ◌≤◌, ◌⊎◌, [], ℕ, IfErr, IfOk, IsErrOf, List, Result, Some, Vec, length, slice_get, vec_capacity}
use Rattle.std.specs.Global.{Global}
use Rattle.litmus_step.specs.Runs.{tasks_of}
use Rattle.executions.specs.execution.Run.{Run}
use Rattle.runner.specs.TaskResult.{IsFound, IsFailedWait}
use Rattle.prepared_program.specs.declared.program_sites.error.RunError.{RunError}
use Rattle.prepared_program.specs.declared.program_sites.error.RunError.TheVariants.{OutOfMemory, Stuck}
use Rattle.runner.specs.declared.first.TaskStart.{TaskStart}
use Rattle.runner.specs.declared.first.TaskStarts.{TaskStarts}
use Rattle.runner.specs.declared.seated.TaskResult.{TaskResult}
use Rattle.shared_table.specs.Seats.{Opened}

-- the task of a number is before its first step: its seat is at this table and has no record
pub record IsStart (opened : Opened) (task : ℕ) (start : TaskStart) : Type 0 where
  pub number : start.number ≡ task
  pub table : start.seat.table ≡ opened
  pub own : start.seat.task ≡ task
  pub no_record : start.seat.records ≡ []

-- so it is of each task of the table, in the order of their numbers
pub record AreStarts (opened : Opened) (starts : List TaskStart) : Type 0 where
  pub all : length starts ≡ opened.given.tasks
  pub each : (task : ℕ) (start : TaskStart) → slice_get starts task ≡ Some start → IsStart opened task start

-- so it is of the tasks of each of several runs, on their tables in this order
pub record AreStartsOfEach (tables : List Opened) (rows : List (List TaskStart)) : Type 0 where
  pub all : length rows ≡ length tables
  pub each : (at : ℕ) (opened : Opened) (row : List TaskStart) → slice_get tables at ≡ Some opened → slice_get rows at ≡ Some row
      → AreStarts opened row

-- the task of a number is before its first step in each of several runs, and there is room for what comes of it in
-- these
pub record IsTaskStart (tables : List Opened) (task : ℕ) (it : TaskStarts) : Type 0 where
  pub number : it.number ≡ task
  pub all : length it.starts.items ≡ length tables
  pub each : (at : ℕ) (opened : Opened) (start : TaskStart) → slice_get tables at ≡ Some opened → slice_get it.starts.items at ≡ Some start
      → IsStart opened task start
  pub none : it.outcomes.items ≡ []
  pub room : length it.starts.items ≤ vec_capacity it.outcomes

-- so it is of each task, in the order of their numbers
pub record AreAllStarts (tables : List Opened) (tasks : ℕ) (all : List TaskStarts) : Type 0 where
  pub many : length all ≡ tasks
  pub each : (task : ℕ) (it : TaskStarts) → slice_get all task ≡ Some it → IsTaskStart tables task it

-- so it is of each of some tasks, in any order
abbrev pub AreSomeStarts : List Opened → ℕ → List TaskStarts → Type 0
AreSomeStarts tables tasks starts =
    (at : ℕ) (it : TaskStarts) → slice_get starts at ≡ Some it → IsTaskStart tables it.number it × (it.number < tasks)

-- these are the starts of a task in several runs, under its number, and there is room for what comes of them
pub record HoldsStarts (task : ℕ) (column : List TaskStart) (it : TaskStarts) : Type 0 where
  pub number : it.number ≡ task
  pub starts : it.starts.items ≡ column
  pub none : it.outcomes.items ≡ []
  pub room : length it.starts.items ≤ vec_capacity it.outcomes

-- so it is of each task
pub record AreTaskStarts (columns : List (List TaskStart)) (all : List TaskStarts) : Type 0 where
  pub many : length all ≡ length columns
  pub each : (task : ℕ) (column : List TaskStart) (it : TaskStarts) → slice_get columns task ≡ Some column → slice_get all task ≡ Some it
      → HoldsStarts task column it

-- A task is found after the steps of its whole text, or it is stuck and says so, or there was no memory for it.
pub record IsOutcome (run : Run) (opened : Opened) (task : ℕ) (outcome : Result TaskResult RunError) : Type 0 where
  pub found : IfOk outcome (IsFound run opened task)
  pub errors : IfErr outcome (λ error. (error ≡ Stuck task) ⊎ (error ≡ OutOfMemory))
  pub stuck : IsErrOf outcome (Stuck task) → IsFailedWait run task

-- so it is of each task
pub record AreOutcomes (run : Run) (opened : Opened) (tasks : ℕ) (outcomes : List (Result TaskResult RunError)) : Type 0 where
  pub all : length outcomes ≡ tasks
  pub each : (task : ℕ) (outcome : Result TaskResult RunError) → slice_get outcomes task ≡ Some outcome → IsOutcome run opened task outcome

-- so it is of the tasks of each of several runs, on their tables in this order
pub record AreOutcomesOfEach (run : Run) (tables : List Opened) (rows : List (List (Result TaskResult RunError))) : Type 0 where
  pub all : length rows ≡ length tables
  pub each : (at : ℕ) (opened : Opened) (row : List (Result TaskResult RunError)) → slice_get tables at ≡ Some opened → slice_get rows at ≡ Some row
      → AreOutcomes run opened (tasks_of run) row

-- so it is of one task in each of several runs
pub record IsOutcomeOfEach (run : Run) (tables : List Opened) (task : ℕ) (outcomes : List (Result TaskResult RunError)) : Type 0 where
  pub all : length outcomes ≡ length tables
  pub each : (at : ℕ) (opened : Opened) (outcome : Result TaskResult RunError) → slice_get tables at ≡ Some opened → slice_get outcomes at ≡ Some outcome
      → IsOutcome run opened task outcome

-- so it is of each task
pub record AreAllOutcomes (run : Run) (tables : List Opened) (tasks : ℕ) (columns : List (List (Result TaskResult RunError))) : Type 0 where
  pub many : length columns ≡ tasks
  pub each : (task : ℕ) (column : List (Result TaskResult RunError)) → slice_get columns task ≡ Some column → IsOutcomeOfEach run tables task column

-- so it is of the task of each start, at the place of the start
pub record ComeOf (run : Run) (tables : List Opened) (starts : List TaskStarts) (outcomes : List (Vec (Result TaskResult RunError) Global)) : Type 0 where
  pub all : length outcomes ≡ length starts
  pub each : (at : ℕ) (it : TaskStarts) (came : Vec (Result TaskResult RunError) Global) → slice_get starts at ≡ Some it
      → slice_get outcomes at ≡ Some came → IsOutcomeOfEach run tables it.number came.items
