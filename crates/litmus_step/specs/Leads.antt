-- Which lists of steps lead to tasks over their words.
use Rattle.std.specs.Prelude.{◌≡◌, ◌++◌, ◌∷◌, [], ℕ, List, Some, is_some, length, map, reverse, slice_get}
use Rattle.access_types.specs.declared.report.Report.{Report}
use Rattle.litmus_syntax.specs.Tree.{Block}
use Rattle.executions.specs.execution.Run.{Run, first_words, task_of, task_setting}
use Rattle.executions.specs.execution.Execution.{Execution}
use Rattle.log_correctness.specs.Noted.{Notes}
use Rattle.setup_access.specs.Parts.{made}
use Rattle.slot_table.specs.Records.{records_of, words_after}
use Rattle.slot_table.specs.Words.{Words}
use Rattle.slot_table.specs.declared.records.Record.{Record}
use Rattle.slot_table.specs.declared.step.Answer.{Answer}
use Rattle.slot_table.specs.declared.step.Step.{Step}
use Rattle.litmus_step.specs.Kept.{AreKept}
use Rattle.litmus_step.specs.Runs.{CanBeMade, tasks_of}
use Rattle.task_log.specs.declared.log.TaskLog.{TaskLog}
use Rattle.task_log.specs.declared.noted.Noted.{Noted}
use Rattle.task_plan.specs.Counts.{up_to_last}
use Rattle.task_run.specs.Leads as task_run
use Rattle.task_run.specs.Points.{HasMade, Stepped}
use Rattle.task_run.specs.Says.{Says}
use Rattle.task_run.specs.declared.run.TaskRun.{TaskRun}
use Rattle.program_order.specs.Standing.{Setting}
use Rattle.program_order.specs.Waits.{OnlyStep, WithinTurns}

-- a task's records in the list lead to its machine
abbrev pub LeadsTask : Run → ℕ → List Record → TaskRun → Type 0
LeadsTask run task records machine =
    task_run.Leads (task_setting run task) (length (task_of run task).registers) (task_of run task).body
    (reverse (records_of task records)) machine

-- so it is of each task
pub record LeadsTasks (run : Run) (records : List Record) (machines : List TaskRun) : Type 0 where
  pub all : length machines ≡ tasks_of run
  pub each : (task : ℕ) (machine : TaskRun) → slice_get machines task ≡ Some machine
      → LeadsTask run task records machine

-- the steps that are noted of a task, each with whether an access begins with it
abbrev pub steps_noted : List Noted → List Stepped
steps_noted noted = map (λ one. record { step = one.step; begins = is_some one.begins }) noted

-- what a machine keeps of its task's last steps is what the list notes of them
pub record IsAtPoint {run : Run} {records : List Record} (list : Execution run records) (task : ℕ) (machine : TaskRun) :
    Type 0 where
  pub noted : List Noted
  pub notes : Notes list task noted
  pub made : HasMade (steps_noted noted) machine

-- so it is of each task
abbrev pub AreAtPoints : {run : Run} {records : List Record} → Execution run records → List TaskRun → Type 0
AreAtPoints list machines = (task : ℕ) (machine : TaskRun) → slice_get machines task ≡ Some machine → IsAtPoint list task machine

-- The list, the latest record first, is an execution, and leads to these words, to these machines and to
-- this count of steps. What is kept of its steps is what it says, and what is reported is what it reports, as long
-- as there is room for it.
pub record LeadsToAll (run : Run) (records : List Record) (words : Words) (machines : List TaskRun)
    (steps : ℕ) (logs : List TaskLog) (reports : List Report) (room : ℕ) : Type 0 where
  pub can : CanBeMade run
  pub list : Execution run records
  pub leaves : words ≡ words_after (first_words run) records
  pub tasks : LeadsTasks run records machines
  pub counts : steps ≡ up_to_last (length records)
  pub kept : AreKept list logs reports room
  pub points : AreAtPoints list machines

-- some execution leads there
pub record IsLedTo (words : Words) (machines : List TaskRun) (steps : ℕ) (logs : List TaskLog) (reports : List Report)
    (room : ℕ) : Type 0 where
  pub run : Run
  pub records : List Record
  pub leads : LeadsToAll run records words machines steps logs reports room

-- Whatever records lead to the machine, this is the only step that they go on with. Where none of them was a try
-- too much it is none either.
pub record MakesNext (machine : TaskRun) (step : Step) : Type 0 where
  pub says : Says machine step
  pub only : (s : Setting) (registers : ℕ) (body : Block) (records : List Record)
      → task_run.Leads s registers body records machine → OnlyStep s registers body records step
  pub within : (s : Setting) (registers : ℕ) (body : Block) (records : List Record)
      → task_run.Leads s registers body records machine → WithinTurns s.rules.turns (reverse records)
      → (answer : Answer)
      → WithinTurns s.rules.turns (reverse (records ++ made s.text.task step answer ∷ []))

-- so it is of the machine of a task
pub record MakesNextIn (machines : List TaskRun) (task : ℕ) (step : Step) : Type 0 where
  pub machine : TaskRun
  pub stands : slice_get machines task ≡ Some machine
  pub makes : MakesNext machine step

-- the text of the task goes on with this step and no other, and with its answer the list is one of the run
pub record GoesOnWith (run : Run) (task : ℕ) (records : List Record) (step : Step) : Type 0 where
  pub only : OnlyStep (task_setting run task) (length (task_of run task).registers) (task_of run task).body
      (reverse (records_of task records)) step
  pub answer : Answer
  pub list : Execution run (made task step answer ∷ records)
