-- By the list, all tasks of which have ended.
use Rattle.std.proofs.Common.{[], List, refl, subst, sym}
use Rattle.litmus_step.specs.Runs.{tasks_of}
use Rattle.soundness.specs.Cells.{CellsHold, memory_after, run_cells}
use Rattle.soundness.specs.Reported.{IsTrueReport}
use Rattle.executions.specs.execution.Observed.{history_of}
use Rattle.accepted_traces.proofs.Parted.{all_reported}
use Rattle.runner.proofs.laws.law_results_are_of_the_program.Goals as goal

pub returns-clause-meant : goal.returns-clause-meant
returns-clause-meant c = λ run records list result is task.
    c.law_machines_stand_where_the_list_does.ensures.meant run records list task (is.ended task)

pub returns-clause-content : goal.returns-clause-content
returns-clause-content c = λ run records list result is.
    subst (λ (cells : List _). CellsHold (run_cells run) (memory_after run (history_of list)) cells) (sym is.memory)
    (c.law_cells_hold_the_content.ensures.bytes run records list [] records refl)

pub returns-clause-true_reports : goal.returns-clause-true_reports
returns-clause-true_reports c = λ run records list result is.
    all_reported list (IsTrueReport list) (tasks_of run) result.reports.items is.reports is.headline.reports
