-- Which accesses of a task are in progress, by its machine, and what is told of those that began before a part.
use Rattle.std.specs.Prelude.{◌≡◌, ◌≢◌, ◌<◌, ◌++◌, List, None, Option, AllPairs, Contains, count_by}
use Rattle.std.specs.Option.{option_to_list}
use Rattle.access_types.specs.Access.{Access}
use Rattle.access_types.specs.declared.history.Happening.TheVariants.{Begin, End}
use Rattle.litmus_semantics.specs.Task.{begins_at}
use Rattle.setup_access.specs.Shown.{begun_of, closing_of, scoped_of}
use Rattle.setup_access.specs.declared.begun.Begun.{Begun}
use Rattle.setup_access.specs.declared.checker.Checker.{Checker}
use Rattle.task_run.specs.declared.run.TaskRun.{TaskRun}
use Rattle.task_run.specs.declared.stage.TaskStage.{TaskStage}
use Rattle.task_run.specs.declared.stage.TaskStage.TheVariants as stages
use Rattle.program_order.specs.Standing.{Standing}

-- the access that begins is a new one of its site: its repetition is how many began there before
abbrev pub IsNewAt : Access → Standing → Type 0
IsNewAt a before = a.rep ≡ count_by (begins_at a.site) before.progress.did

-- Of a task that stands here: the accesses that began at a site have repetitions below their number, so one with this
-- number is new; each that ended began; and no scoped assertion is in force twice.
pub record RepeatsAreTold (before : Standing) : Type 0 where
  pub below : (a : Access) → Contains before.progress.did (Begin a) → a.rep < count_by (begins_at a.site) before.progress.did
  pub ended : (a : Access) → Contains before.progress.did (End a) → Contains before.progress.did (Begin a)
  pub apart : AllPairs (λ one other. one ≢ other) before.scopes

-- in a part of its text, the access that has begun in it, or the scoped assertion whose scope it closes
abbrev pub begun_in : Checker → TaskStage → Option Begun
begun_in checker stages.Over = None
begun_in checker stages.Stopped = None
begun_in checker (stages.Making run kept) = begun_of checker
begun_in checker stages.Opening = begun_of checker
begun_in checker stages.Closing = closing_of checker
begun_in checker (stages.Locking wait variable) = None
begun_in checker (stages.Unlocking variable) = None

-- the accesses of the task that are in progress, with what was decided of each as it began: the scoped assertions in
-- force, the oldest first, and then that of the part of its text
abbrev pub in_progress_of : TaskRun → List Begun
in_progress_of run = scoped_of run.machine.checker ++ option_to_list (begun_in run.machine.checker run.stage)
