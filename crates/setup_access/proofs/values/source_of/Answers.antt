-- The cell that was found holds the whole range.
use Rattle.std.proofs.Common.{◌∙◌, arith, sym}
use Rattle.setup_access.proofs.ValuesLemmas.{found_in_cell}
use Rattle.setup_access.proofs.values.source_of.Goals as goal

pub overflow_sub-first : goal.overflow_sub-first
overflow_sub-first c =
    let inside = found_in_cell c.args.access.now c.args.setting.now.cells.items c.in_ok-cell.cell c.index.result.now (sym c.cell_of.ensures ∙ c.in_ok-cell.was) c.index.ensures in
    omega (arith, inside.0)

pub returns-clause-in_cell : goal.returns-clause-in_cell
returns-clause-in_cell c =
    let inside = found_in_cell c.args.access.now c.args.setting.now.cells.items c.in_ok-cell.cell c.index.result.now (sym c.cell_of.ensures ∙ c.in_ok-cell.was) c.index.ensures in
    omega (arith, c.addr.ensures, inside.0, inside.1)
