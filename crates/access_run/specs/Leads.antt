-- What is true of an access under way, by its records so far.
use Rattle.std.specs.Prelude.{◌≡◌, ◌++◌, ◌⊎◌, ℕ, List, [], Option, None, Some, IsSome}
use Rattle.access_run.specs.Access.{MakesAccess}
use Rattle.access_run.specs.Moved.{moved}
use Rattle.access_run.specs.Stamps.{first_stamp, last_stamp}
use Rattle.access_run.specs.Whole.{IsWhole, NoneWhole}
use Rattle.access_run.specs.declared.access.AccessRun.{AccessRun}
use Rattle.access_run.specs.declared.stage.AccessStage.{AccessStage}
use Rattle.access_run.specs.declared.stage.AccessStage.TheVariants as stages
use Rattle.access_types.specs.Access.{Access}
use Rattle.access_run.specs.memory_operation.Leads as operations
use Rattle.access_run.specs.memory_operation.Operations.{Operates}
use Rattle.access_run.specs.declared.memory_operation.effect.Effect.{Effect}
use Rattle.access_run.specs.declared.memory_operation.operation.Operation.{Operation}
use Rattle.access_run.specs.declared.memory_operation.run.OperationRun.{OperationRun}
use Rattle.setup_access.specs.Check.{Check, Fallen, Passes}
use Rattle.setup_access.specs.Checker.{Checks}
use Rattle.setup_access.specs.Fallen.{outcomes_in}
use Rattle.setup_access.specs.Leads as checks
use Rattle.setup_access.specs.Setting.{Setting}
use Rattle.setup_access.specs.Shown.{outcomes_of}
use Rattle.setup_access.specs.Values.{source_of}
use Rattle.setup_access.specs.Waits.{IsStuckBy}
use Rattle.setup_access.specs.declared.begun.Begun.{Begun}
use Rattle.setup_access.specs.declared.checker.Checker.{Checker}
use Rattle.setup_access.specs.declared.source.Source.{Source}
use Rattle.slot_table.specs.declared.records.Record.{Record}
use Rattle.slot_table.specs.declared.step.Step.{Step}
use Rattle.slot_table.specs.declared.step.Step.TheVariants.{Clock}

-- the bytes of an access lie in a cell, if it has an operation
abbrev pub HasCell : Setting → Access → Option Operation → Type 0
HasCell s a None = Unit {0}
HasCell s a (Some operation) = IsSome (source_of s a)

-- the operation of an access leads, by these records, to where it is
abbrev pub Runs : Setting → Access → Option Operation → List Record → OperationRun → Type 0
Runs s a None records run = ⊥
Runs s a (Some operation) records run =
    (source : Source) × (source_of s a ≡ Some source)
    × operations.Leads s.task a source operation records run

-- the operation of an access, if it has one, is held ready while its check is made
abbrev pub IsReady : Setting → Access → Option Operation → Option OperationRun → Type 0
IsReady s a operation None = operation ≡ None
IsReady s a operation (Some run) = Runs s a operation [] run

-- what comes of an operation is the same, whatever follows
abbrev pub same_effect : List Record → Effect → Effect
same_effect rest effect = effect

-- the records are the whole check of an access, and the checker rests with its outcomes
pub record IsChecked (s : Setting) (scopes : List Begun) (begun : Begun) (asked : ℕ)
    (records : List Record) (checker : Checker) : Type 0 where
  pub now : ℕ
  pub fallen : List Fallen
  pub outcomes : outcomes_of checker ≡ outcomes_in fallen
  pub whole : IsWhole moved (Check s scopes begun asked) records
      (record { outcomes = fallen; asked = now })
  pub rests : checks.Rests s scopes now (Some begun) checker

-- The records are the whole access, this and nothing else comes of it, and of whatever begins with
-- them and with the access all else is left, after its check and its operation where they ended; the
-- checker rests with its outcomes.
pub record AccessIsComplete (s : Setting) (scopes : List Begun) (begun : Begun) (asked : ℕ)
    (operation : Option Operation) (records : List Record) (effect : Effect) (checker : Checker)
    : Type 0 where
  pub now : ℕ
  pub fallen : List Fallen
  pub outcomes : outcomes_of checker ≡ outcomes_in fallen
  pub makes : MakesAccess s scopes begun asked operation records
      (record { outcomes = fallen; asked = now }) effect []
  pub alone : (later : List Record) (passes : Passes) (other : Effect) (rest : List Record)
      → (all : MakesAccess s scopes begun asked operation (records ++ later) passes other rest)
      → (rest ≡ later) × (passes ≡ moved rest (record { outcomes = fallen; asked = now }))
      × (other ≡ effect) × (all.checked ≡ makes.checked ++ later) × (all.done ≡ makes.done ++ later)
  pub rests : checks.Rests s scopes now (Some begun) checker

-- An access leads, by these records, to a stage: in its check they aren't the whole of it yet; then
-- they are the check and what was made of the operation; at the end they are both; and then all.
abbrev pub StageLeads : Setting → List Begun → Begun → ℕ → Option Operation → List Record → AccessStage
    → Checker → Type 0
StageLeads s scopes begun asked operation records (stages.Check run) checker =
    checks.Leads s scopes (Checks begun) asked records checker
    × NoneWhole (Check s scopes begun asked) records × IsReady s begun.access operation run
StageLeads s scopes begun asked operation records (stages.Operate run) checker =
    (checked done : List Record) × (records ≡ checked ++ done)
    × IsChecked s scopes begun asked checked checker
    × NoneWhole (Operates s begun.access operation) done × Runs s begun.access operation done run
StageLeads s scopes begun asked operation records (stages.End effect) checker =
    (checked done : List Record) × (records ≡ checked ++ done)
    × IsChecked s scopes begun asked checked checker
    × IsWhole same_effect (Operates s begun.access operation) done effect
StageLeads s scopes begun asked operation records (stages.Over effect) checker =
    AccessIsComplete s scopes begun asked operation records effect checker

-- at this stage the access isn't over
abbrev pub IsUnderWay : AccessStage → Type 0
IsUnderWay (stages.Check run) = Unit {0}
IsUnderWay (stages.Operate run) = Unit {0}
IsUnderWay (stages.End effect) = Unit {0}
IsUnderWay (stages.Over effect) = ⊥

-- the stamp of the end is there once the access is over: the one that the last record answers
abbrev pub HasEndStamp : AccessStage → List Record → Option ℕ → Type 0
HasEndStamp (stages.Check run) records stamp = stamp ≡ None
HasEndStamp (stages.Operate run) records stamp = stamp ≡ None
HasEndStamp (stages.End effect) records stamp = stamp ≡ None
HasEndStamp (stages.Over effect) records stamp = stamp ≡ last_stamp records

-- An access that begins while these scoped assertions are in force leads, by these records so far, to
-- where it and its task's checker are; its stamps are those that the records answer.
pub record AccessLeads (s : Setting) (scopes : List Begun) (begun : Begun) (asked : ℕ)
    (operation : Option Operation) (records : List Record) (run : AccessRun) (checker : Checker)
    : Type 0 where
  pub stage : StageLeads s scopes begun asked operation records run.stage checker
  pub begin : run.stamps.begin ≡ first_stamp records
  pub end : HasEndStamp run.stage records run.stamps.end

-- a stage is before this step
abbrev pub StageSays : AccessStage → Checker → Step → Type 0
StageSays (stages.Check run) checker step = checks.Says checker step
StageSays (stages.Operate run) checker step = operations.Says run step
StageSays (stages.End effect) checker step = step ≡ Clock
StageSays (stages.Over effect) checker step = ⊥

-- so is the access
abbrev pub AccessSays : AccessRun → Checker → Step → Type 0
AccessSays run checker step = StageSays run.stage checker step

-- whatever begins with the records and with the access goes on, after the records, with this step
abbrev pub AccessOnlyStep : Setting → List Begun → Begun → ℕ → Option Operation → List Record → Step
    → Type 0
AccessOnlyStep s scopes begun asked operation records step =
    (later : List Record) (passes : Passes) (effect : Effect) (rest : List Record)
    → MakesAccess s scopes begun asked operation (records ++ later) passes effect rest
    → checks.GoOn s.task step later

-- the records are all of the access
abbrev pub AccessIsDone : Setting → List Begun → Begun → ℕ → Option Operation → List Record → Type 0
AccessIsDone s scopes begun asked operation records =
    (passes : Passes) × (effect : Effect)
    × MakesAccess s scopes begun asked operation records passes effect []

-- the operation of an access, of which these are the records, was refused so often as the rules allow
abbrev pub IsStuckIn : Setting → Access → Option Operation → List Record → Type 0
IsStuckIn s a None records = ⊥
IsStuckIn s a (Some operation) records =
    (source : Source) × (source_of s a ≡ Some source)
    × operations.IsStuck s.rules.turns s.task a source operation records

-- its check isn't over and waits, or its operation does, and had so many failed tries as the rules allow
pub data WaitsTooLong (s : Setting) (scopes : List Begun) (begun : Begun) (asked : ℕ)
    (operation : Option Operation) (records : List Record) : Type 0 where
  in_check : NoneWhole (Check s scopes begun asked) records → IsStuckBy s.rules.turns records
      → WaitsTooLong s scopes begun asked operation records
  in_operation : (checked done : List Record) (passes : Passes) → records ≡ checked ++ done
      → Check s scopes begun asked checked passes [] → IsStuckIn s begun.access operation done
      → WaitsTooLong s scopes begun asked operation records

-- the access isn't over, and waits too long
pub record AccessIsStuck (s : Setting) (scopes : List Begun) (begun : Begun) (asked : ℕ)
    (operation : Option Operation) (records : List Record) : Type 0 where
  pub going : ¬ AccessIsDone s scopes begun asked operation records
  pub waits : WaitsTooLong s scopes begun asked operation records

-- no step follows on the records: they are all of the access, or stuck
abbrev pub AccessIsOver : Setting → List Begun → Begun → ℕ → Option Operation → List Record → Type 0
AccessIsOver s scopes begun asked operation records =
    AccessIsDone s scopes begun asked operation records
    ⊎ AccessIsStuck s scopes begun asked operation records
