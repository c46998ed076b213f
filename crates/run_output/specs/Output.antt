-- What is found of a run, and its whole output.
use Rattle.std.specs.Prelude.{◌≡◌, ◌++◌, ◌↔◌, ℕ, IsTrue, List, if◌then◌else◌}
use Rattle.std.specs.List.{flat_map}
use Rattle.access_types.specs.Sites.{AccessMap}
use Rattle.access_types.specs.declared.report.Report.{Report}
use Rattle.report_text.specs.ReportOf.{report_text}
use Rattle.executions.specs.execution.Run.{Run}
use Rattle.executions.specs.execution.Execution.{Execution}
use Rattle.log_correctness.specs.Totals.{CountsList, IsUnbalanced}
use Rattle.run_output.specs.Finals.{HoldsAtEnd}
use Rattle.run_output.specs.Lines.{condition_line, counters_line}
use Rattle.run_output.specs.declared.output.RunFindings.{RunFindings}
use Rattle.slot_table.specs.declared.records.Record.{Record}

-- the reports in order, of the accesses that their tickets name, the line of counters, and the line on the condition
abbrev pub output_text : AccessMap → List Report → RunFindings → List ℕ
output_text sites reports found =
    flat_map (report_text sites) reports ++ counters_line found.counters found.unbalanced
    ++ condition_line (if found.held then 1 else 0) 1

-- this is found of the list: how often each thing came of its checks, and whether the condition of the program holds at
-- its end
pub record IsFoundOf {run : Run} {records : List Record} (list : Execution run records) (found : RunFindings) : Type 0 where
  pub counters : CountsList list found.counters
  pub unbalanced : IsUnbalanced list found.unbalanced
  pub held : IsTrue found.held ↔ HoldsAtEnd list

-- the output of a list with these reports
pub record IsOutput {run : Run} {records : List Record} (list : Execution run records) (reports : List Report) (output : List ℕ) : Type 0 where
  pub found : RunFindings
  pub found_of : IsFoundOf list found
  pub spelled : output ≡ output_text run.sites reports found
