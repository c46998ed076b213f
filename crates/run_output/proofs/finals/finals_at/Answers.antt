-- a variable's value in the cells is the content of its bytes
use Rattle.std.proofs.Common.{◌∙◌, [], List, ℕ, refl, subst, sym}
use Rattle.prepared_program.specs.program_layout.Places.{places_of}
use Rattle.litmus_step.specs.Runs.{run_of}
use Rattle.soundness.proofs.CellBlocks.{cells_are_blocks}
use Rattle.soundness.specs.Cells.{CellsHold, memory_after, run_cells}
use Rattle.executions.specs.execution.Observed.{history_of}
use Rattle.run_output.proofs.CellValues.{variable_told}
use Rattle.run_output.proofs.finals.finals_at.Goals as goal

pub returns-clause-variables : goal.returns-clause-variables
returns-clause-variables c = λ program settings sites records list limits prepared is number.
    let given = settings.places.items in
    let places = places_of given in
    let variables = program.variables in
    let run = run_of program settings sites in
    c.in_ok-variables.ensures program settings prepared number
    ∙ variable_told places variables (history_of list) c.args.words.now
    (cells_are_blocks places variables).multiple
    (subst (λ (words : List ℕ). CellsHold (run_cells run) (memory_after run (history_of list)) words) (sym is)
    (c.law_cells_hold_the_content.ensures.bytes run records list [] records refl))
    (c.law_variables_lie_in_one_cell.ensures variables given prepared.fit limits.names) number
