-- The pieces, one behind the other.
use Rattle.race_page.specs.Counts.{count_cells}
use Rattle.race_page.proofs.counts.count_cells.Goals as goal

pub returns : goal.returns
unfolding count_cells
returns c = c.build.ensures _ (c.text-6.ensures _ _ (c.text-5.ensures _ _ (c.text-4.ensures _ _ (c.text-3.ensures _ _
    (c.text-2.ensures _ _ (c.text.ensures _ _ c.new.ensures c.count_cell.ensures) c.count_cell-2.ensures)
    c.count_cell-3.ensures) c.count_cell-4.ensures) c.count_cell-5.ensures) c.count_cell-6.ensures)
