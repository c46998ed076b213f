-- What is kept of the steps of a run, by the list.
use Rattle.std.specs.Prelude.{◌≡◌, ◌⊎◌, ◌*◌, ◌≤◌, ◌++◌, ◌<◌, ◌∷◌, [], ℕ, List, Option, None, Some, length, map, slice_get}
use Rattle.std.specs.List.{sum_by}
use Rattle.access_types.specs.declared.report.Report.{Report}
use Rattle.executions.specs.execution.Reports.{reports_of}
use Rattle.litmus_syntax.specs.Limits.{block_repeats}
use Rattle.executions.specs.execution.Run.{Run, task_of}
use Rattle.executions.specs.execution.Execution.{Execution}
use Rattle.log_correctness.specs.Noted.{Notes}
use Rattle.slot_table.specs.declared.records.Record.{Record}
use Rattle.litmus_step.specs.Runs.{tasks_of}
use Rattle.task_log.specs.Keeps.{Keeps, Room, room_in}
use Rattle.task_log.specs.Reports as logs
use Rattle.task_log.specs.declared.log.TaskLog.{TaskLog}
use Rattle.task_log.specs.declared.noted.Noted.{Noted}

-- There is room for as many accesses of a task as its text can begin: as often as its loops repeat them. At each of
-- these there is room for nine watchpoints that are set up or taken: its check's own and those of eight assertions.
abbrev pub accesses_kept : Run → ℕ → ℕ
accesses_kept run task = block_repeats 1 (task_of run task).body

abbrev pub watches_kept : Run → ℕ → ℕ
watches_kept run task = 9 * accesses_kept run task

-- there is room for as many reports of all tasks
abbrev pub reports_kept : Run → ℕ
reports_kept run = 9 * sum_by (λ task. block_repeats 1 task.body) run.program.tasks

-- what is kept of a task's steps is what the list notes of them
pub record IsKept {run : Run} {records : List Record} (list : Execution run records) (task : ℕ) (log : TaskLog) :
    Type 0 where
  pub noted : List Noted
  pub notes : Notes list task noted
  pub keeps : Keeps (accesses_kept run task) (watches_kept run task) noted log

-- so it is of each task
pub record AreLogs {run : Run} {records : List Record} (list : Execution run records) (logs : List TaskLog) : Type 0 where
  pub all : length logs ≡ tasks_of run
  pub each : (task : ℕ) (log : TaskLog) → slice_get logs task ≡ Some log → IsKept list task log

-- the reports are the first of these: all, as long as there is room
pub record AreFirst (reports : List Report) (room : ℕ) (all : List Report) : Type 0 where
  pub later : List Report
  pub reported : reports ++ later ≡ all
  pub full : (later ≡ []) ⊎ (room ≤ length reports)

-- The reports are the first of those that the list reports: all, as long as there is room, which there is for nine at
-- each access.
pub record AreReported {run : Run} {records : List Record} (list : Execution run records) (reports : List Report)
    (room : ℕ) : Type 0 where
  pub later : List Report
  pub reported : reports ++ later ≡ reports_of list
  pub full : (later ≡ []) ⊎ (room ≤ length reports)
  pub space : reports_kept run ≤ room

-- what is kept of all tasks
pub record AreKept {run : Run} {records : List Record} (list : Execution run records) (logs : List TaskLog)
    (reports : List Report) (room : ℕ) : Type 0 where
  pub logs_are : AreLogs list logs
  pub reports_are : AreReported list reports room

-- a step is noted in a log, and this is reported at it
pub record IsNotedIn (before : TaskLog) (noted : Noted) (after : TaskLog) (report : Option Report) : Type 0 where
  pub keeps : (accesses watches : ℕ) (own : List Noted) → Keeps accesses watches own before
      → Keeps accesses watches (noted ∷ own) after
  pub reported : (accesses watches : ℕ) (own : List Noted) → Keeps accesses watches own before
      → report ≡ logs.reported noted.outcome own

-- a report, if there is one, is added where there is room for it
abbrev pub Added : Option Report → ℕ → List Report → List Report → Type 0
Added None room before after = after ≡ before
Added (Some report) room before after =
    ((length before < room) × (after ≡ before ++ report ∷ [])) ⊎ ((room ≤ length before) × (after ≡ before))

-- how much room there is for what each task keeps of its steps
abbrev pub rooms_of : List TaskLog → List Room
rooms_of logs = map room_in logs
