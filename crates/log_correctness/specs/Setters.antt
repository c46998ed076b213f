-- Whose watchpoint a report is of.
use Rattle.std.specs.Prelude.{◌≡◌, ◌==◌, ◌⊎◌, ℕ, Bool, List, filter, length}
use Rattle.access_types.specs.Ticket.{task_in}
use Rattle.access_types.specs.declared.report.Report.{Report}
use Rattle.access_types.specs.declared.report.Report.TheVariants.{Two, Unknown}
use Rattle.slot_table.specs.declared.records.Record.{Record}
use Rattle.log_correctness.specs.Lists.{ByTask}
use Rattle.executions.specs.execution.Reports.{reports_of}
use Rattle.executions.specs.execution.Run.{Run}
use Rattle.executions.specs.execution.Execution.{Execution}

-- the ticket of the access that set the watchpoint up
abbrev pub setter_of : Report → ℕ
setter_of (Two setter finder seen) = setter
setter_of (Unknown setter old new) = setter

-- the access is one of this task
abbrev pub is_by : ℕ → Report → Bool
is_by task report = task_in (setter_of report) == task

-- the reports of a task's watchpoints
abbrev pub reports_by : ℕ → List Report → List Report
reports_by task reports = filter (is_by task) reports

-- the reports that the list gives, by the task whose watchpoint each is of
abbrev pub AreReports : {run : Run} {records : List Record} → Execution run records → List Report → Type 0
AreReports {run = run} list all = ByTask (λ task own. own ≡ reports_by task (reports_of list)) (length run.program.tasks) all

-- those reports, in the order of their verdicts or by that task
abbrev pub AreReportsOf : {run : Run} {records : List Record} → Execution run records → List Report → Type 0
AreReportsOf list all = (all ≡ reports_of list) ⊎ AreReports list all
