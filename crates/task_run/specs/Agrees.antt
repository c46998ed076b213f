-- A task that is in a part of its text, by the records of the part so far.
use Rattle.std.specs.Prelude.{◌≡◌, ◌↔◌, ◌++◌, ◌<◌, Bool, IsTrue, List, [], ◌∷◌, Option, None, Some, length, true}
use Rattle.access_run.specs.memory_operation.Operations.{Reads}
use Rattle.access_run.specs.Leads.{AccessIsDone, AccessLeads}
use Rattle.access_run.specs.Whole.{NoneWhole}
use Rattle.access_run.specs.declared.access.AccessRun.{AccessRun}
use Rattle.access_types.specs.declared.history.Happening.TheVariants.{Begin}
use Rattle.litmus_semantics.specs.Task.{has_lock}
use Rattle.access_run.specs.memory_operation.LockLeads.{LockLeads}
use Rattle.access_run.specs.memory_operation.Locks.{TakesLock}
use Rattle.access_run.specs.declared.memory_operation.lock.LockWait.{LockWait}
use Rattle.access_run.specs.declared.memory_operation.operation.Operation.{Operation}
use Rattle.setup_access.specs.Check.{Check, Close}
use Rattle.setup_access.specs.Checker.{Checks, Closes}
use Rattle.setup_access.specs.Leads as checks
use Rattle.setup_access.specs.declared.begun.Begun.{Begun}
use Rattle.slot_table.specs.declared.records.Record.{Record}
use Rattle.task_plan.specs.Follow.{Follow, loaded_by}
use Rattle.task_run.specs.Accesses.{IsNewAt}
use Rattle.task_run.specs.Part.{Part, PartLeft, closes, locks, makes, opens, over, stops, unlocks}
use Rattle.task_run.specs.Stands.{Counts, IsOf, RestsAt, SameToEnd}
use Rattle.task_run.specs.Stops.{PassesWith}
use Rattle.task_run.specs.Position.{ComputesBy}
use Rattle.task_plan.specs.Views.{follow_of}
use Rattle.task_plan.specs.declared.follow.Then.{Then}
use Rattle.task_run.specs.declared.machine.Machine.{Machine}
use Rattle.task_run.specs.declared.stage.TaskStage.{TaskStage}
use Rattle.task_run.specs.declared.stage.TaskStage.TheVariants as stages
use Rattle.program_order.specs.Standing.{BeginsNow, IsDisabled, IsLockAt, Setting, Standing, checks_of, doing, lock_number}
use Rattle.program_order.specs.text_bounds.Scopes.{is_scoped}
use Rattle.task_plan.specs.Left.{DueLeft}
use Rattle.program_order.specs.WrittenOrder.{Steps}

-- where the task stands while it is in the part: an access begins with it
abbrev pub in_part : Part → Standing → Standing
in_part (makes a operation follow) before = doing before [] (Begin a ∷ [])
in_part (opens a) before = doing before [] (Begin a ∷ [])
in_part over before = before
in_part (stops due) before = before
in_part closes before = before
in_part (locks variable) before = before
in_part (unlocks variable) before = before

-- only where the bytes are read is a value taken
abbrev pub IsFit : Follow → Option Operation → Type 0
IsFit (loaded_by size data_races taker) operation = Reads operation
IsFit follow operation = Unit {0}

-- the begin of an access is the next step as long as it has no record
abbrev pub begins_now : Begun → List Record → Option Begun
begins_now begun [] = Some begun
begins_now begun (first ∷ later) = None

-- these records are of the part, which began where the task stood so, and lead to where the machine is
abbrev pub IsIn : Setting → Part → Standing → List Record → Machine → TaskStage → Type 0
IsIn s over before mine machine stage = (stage ≡ stages.Over) × (mine ≡ []) × RestsAt s before machine
IsIn s (stops due) before mine machine stage =
    (stage ≡ stages.Stopped) × (mine ≡ []) × RestsAt s before machine
    × PassesWith s (DueLeft s due machine.walk) before
IsIn s (makes a operation follow) before mine machine stage =
    (access : AccessRun) × (kept : Then) × (begun : Begun) × (stage ≡ stages.Making access kept)
    × (follow_of kept ≡ follow) × IsFit follow operation × BeginsNow s before a begun
    × AccessLeads (checks_of s) before.scopes begun before.asked operation mine access machine.checker
    × (¬ AccessIsDone (checks_of s) before.scopes begun before.asked operation mine)
    × (machine.begins ≡ begins_now begun mine) × IsNewAt a before
IsIn s (opens a) before mine machine stage =
    (begun : Begun) × (stage ≡ stages.Opening) × BeginsNow s before a begun × (length before.scopes < 8)
    × checks.Leads (checks_of s) before.scopes (Checks begun) before.asked mine machine.checker
    × NoneWhole (Check (checks_of s) before.scopes begun before.asked) mine
    × (machine.begins ≡ begins_now begun mine) × (is_scoped a.kind ≡ true) × IsNewAt a before
IsIn s closes before mine machine stage =
    (scopes : List Begun) × (newest : Begun) × (silenced : Bool) × (stage ≡ stages.Closing)
    × (before.scopes ≡ scopes ++ newest ∷ []) × (IsTrue silenced ↔ IsDisabled s before)
    × checks.Leads (checks_of s) scopes (Closes newest silenced) before.asked mine machine.checker
    × NoneWhole (Close (checks_of s) newest silenced before.asked) mine
IsIn s (locks variable) before mine machine stage =
    (wait : LockWait) × (stage ≡ stages.Locking wait variable) × IsLockAt s variable
    × LockLeads s.text.task (lock_number s variable) mine wait × RestsAt s before machine
    × (¬ TakesLock s.text.task (lock_number s variable) mine [])
IsIn s (unlocks variable) before mine machine stage =
    (stage ≡ stages.Unlocking variable) × (mine ≡ []) × RestsAt s before machine
    × (has_lock variable before.progress.did ≡ true)

-- these records are of the part, which began where the task stood so, and the machine is there
pub record Agrees (s : Setting) (part : Part) (before : Standing) (mine : List Record) (machine : Machine)
    (stage : TaskStage) : Type 0 where
  pub of : IsOf s machine
  pub counts : Counts s (in_part part before) machine
  pub is_in : IsIn s part before mine machine stage

-- a part begins, of the same steps to the end as this from these standings on, after what the task
-- computes before its next step
abbrev pub Begins : Setting → Steps → (List Record → Standing) → Machine → TaskStage → Type 0
Begins s Left before machine stage =
    (part : Part) × (now : List Record → Standing)
    × ((later : List Record) → Agrees s part (now later) [] machine stage)
    × SameToEnd Left before (PartLeft s part machine.walk) now × ComputesBy before now
