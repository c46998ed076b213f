-- Equal cells hold equal contents, and ended tasks stand at their ends.
use Rattle.std.proofs.Common.{◌∙◌, [], ℕ, List, ap, refl, sym}
use Rattle.soundness.proofs.CellBlocks.{cells_are_blocks}
use Rattle.executions.specs.execution.Observed.{history_of}
use Rattle.run_output.proofs.CellValues.{variable_told}
use Rattle.run_output.specs.Finals.{value_in_cells}
use Rattle.litmus_step.specs.Runs.{HasEnded, run_of}
use Rattle.executions.specs.execution.Run.{first_words}
use Rattle.executions.specs.execution.Execution.{Execution}
use Rattle.search_output.proofs.EndLemmas.{SameRegisters, SameVariables, end_the_same}
use Rattle.search_output.proofs.laws.law_what_ends_alike_ends_the_same.Goals as goal
use Rattle.slot_table.specs.Records.{words_after}
use Rattle.slot_table.specs.Words.{Words}
use Rattle.slot_table.specs.declared.records.Record.{Record}

pub returns : goal.returns
returns c = λ program settings prepared sites records others limits ready list other ended alike.
    let run = run_of program settings sites in
    let told = λ (rs : List Record) (l : Execution run rs) (number : ℕ).
    variable_told run.places program.variables (history_of l) (words_after (first_words run) rs).cells
    (cells_are_blocks run.places program.variables).multiple
    (c.law_cells_hold_the_content.ensures.bytes run rs l [] rs refl)
    (c.law_variables_lie_in_one_cell.ensures program.variables settings.places.items ready.fit limits.names) number in
    let stands = λ (rs : List Record) (l : Execution run rs) (task : ℕ) (one : HasEnded run task rs).
    ap (λ progress. progress.registers) (c.law_ended_tasks_stand_at_the_end.ensures.end _ _ _ _ (l.tasks task) one) in
    let registers : SameRegisters list other = λ task.
    stands records list task (ended task) ∙ (sym (alike.ends task (ended task)).1
    ∙ sym (stands others other task (alike.ends task (ended task)).0)) in
    let variables : SameVariables list other = λ number.
    sym (told records list number)
    ∙ (ap (λ (words : Words). value_in_cells run.places program.variables words.cells number) alike.words
    ∙ told others other number) in
    end_the_same list other registers variables
