-- The step that a machine is before.
use Rattle.std.specs.Prelude.{◌≡◌, count_by, take}
use Rattle.access_run.specs.Leads.{AccessSays}
use Rattle.access_run.specs.memory_operation.LockLeads.{LockSays}
use Rattle.setup_access.specs.Leads as checks
use Rattle.slot_table.specs.declared.step.Step.{Step}
use Rattle.slot_table.specs.declared.step.Step.TheVariants.{LockStore}
use Rattle.task_run.specs.declared.run.TaskRun.{TaskRun}
use Rattle.task_run.specs.declared.stage.TaskStage.{TaskStage}
use Rattle.task_run.specs.declared.stage.TaskStage.TheVariants as stages
use Rattle.program_order.specs.Standing.{is_lock}

-- a task in a stage is before this step
abbrev pub StageSays : TaskStage → TaskRun → Step → Type 0
StageSays stages.Over run step = ⊥
StageSays stages.Stopped run step = ⊥
StageSays (stages.Making access follow) run step = AccessSays access run.machine.checker step
StageSays stages.Opening run step = checks.Says run.machine.checker step
StageSays stages.Closing run step = checks.Says run.machine.checker step
StageSays (stages.Locking wait variable) run step = LockSays wait step
StageSays (stages.Unlocking variable) run step =
    step ≡ LockStore (count_by (λ v. is_lock v.contents) (take variable run.machine.variables.now))

abbrev pub Says : TaskRun → Step → Type 0
Says run step = StageSays run.stage run step

-- a task in this stage is in a part of its text
abbrev pub IsGoingIn : TaskStage → Type 0
IsGoingIn stages.Over = ⊥
IsGoingIn stages.Stopped = ⊥
IsGoingIn stage = Unit {0}

abbrev pub IsGoing : TaskRun → Type 0
IsGoing run = IsGoingIn run.stage

-- what is due needs more than the machine has room for
abbrev pub IsStopped : TaskRun → Type 0
IsStopped run = run.stage ≡ stages.Stopped
