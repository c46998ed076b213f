-- What is read of a task, by a list that leads to its world.
use Rattle.std.specs.Prelude.{◌≡◌, ◌⊎◌, ◌∷◌, ℕ, Bool, List, [], false, length, true}
use Rattle.access_types.specs.Access.{Access}
use Rattle.access_types.specs.declared.history.Happening.{Happening}
use Rattle.litmus_semantics.specs.Meaning.{MeansBlock}
use Rattle.litmus_syntax.specs.Tree.{Block}
use Rattle.executions.specs.execution.Run.{Run, task_of, task_setting}
use Rattle.executions.specs.execution.Execution.{Execution}
use Rattle.executions.specs.execution.Observed.{made_by}
use Rattle.log_correctness.specs.Noted.{begun_in}
use Rattle.litmus_step.specs.Steps.{MakesNoStep}
use Rattle.setup_access.specs.Parts.{made}
use Rattle.slot_table.specs.Records.{records_of}
use Rattle.slot_table.specs.declared.records.Record.{Record}
use Rattle.slot_table.specs.declared.step.Answer.{Answer}
use Rattle.slot_table.specs.declared.step.Step.{Step}
use Rattle.task_run.specs.Points.{Stepped, next_is}
use Rattle.task_plan.specs.declared.task_points.points.Before.{Before}
use Rattle.task_plan.specs.declared.task_points.points.Before.TheVariants.{Other}
use Rattle.program_order.specs.Standing.{Setting}
use Rattle.program_order.specs.TaskObserved.{did_next}
use Rattle.program_order.specs.WrittenOrder.{WrittenOrder, at_first, stands_after}

-- the values of the task's registers after its records in the list
abbrev pub AreRegisters : {run : Run} {records : List Record} → Execution run records → ℕ → List ℕ → Type 0
AreRegisters list task values = values ≡ (stands_after (list.tasks task)).progress.registers

-- what the task did by its records, and its registers after them, are what its whole text means
abbrev pub IsMeant : {run : Run} {records : List Record} → Execution run records → ℕ → Type 0
IsMeant {run = run} list task =
    MeansBlock (task_setting run task).text 0 (task_of run task).body
    (at_first (length (task_of run task).registers)).progress (stands_after (list.tasks task)).progress

-- an access begins in what a task did
abbrev pub some_access : List Access → Bool
some_access [] = false
some_access (a ∷ more) = true

abbrev pub some_begins : List Happening → Bool
some_begins did = some_access (begun_in did)

-- the steps of a task's own records, the latest first, each with whether an access begins with it
abbrev pub steps_by : {s : Setting} {registers : ℕ} {body : Block} {records : List Record}
    → WrittenOrder s registers body records → List Record → List Stepped
steps_by written [] = []
steps_by written (latest ∷ earlier) =
    record { step = latest.step; begins = some_begins (did_next written (length earlier)) } ∷ steps_by written earlier

-- those that the list tells of the task
abbrev pub steps_told : {run : Run} {records : List Record} → Execution run records → ℕ → List Stepped
steps_told {records = records} list task = steps_by (list.tasks task) (records_of task records)

-- with whatever step of the task the list goes on, this is what that step is behind the task's steps so far
abbrev pub IsNext : {run : Run} {records : List Record} → Execution run records → ℕ → Before → Type 0
IsNext {run = run} {records = records} list task before =
    (step : Step) (answer : Answer) (other : Execution run (made task step answer ∷ records))
    → before ≡ next_is (steps_told list task) step (some_begins (did_next (other.tasks task) (made_by task records)))

-- this is what the next step of the task is, and a task that makes no step more has none
abbrev pub IsBefore : {run : Run} {records : List Record} → Execution run records → ℕ → Before → Type 0
IsBefore {run = run} {records = records} list task before =
    (MakesNoStep run records task × (before ≡ Other)) ⊎ ((¬ MakesNoStep run records task) × IsNext list task before)
