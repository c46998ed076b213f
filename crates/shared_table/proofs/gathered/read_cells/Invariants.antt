use Rattle.std.proofs.Common.{◌≡◌, ℕ, ◌+◌, ◌<◌, get_or, vec_len}
use Rattle.std.specs.Slots.{slots_items}
use Rattle.shared_table.proofs.gathered.read_cells.Given as goal

abbrev pub invariant-loop-cell : goal.invariant-loop-cell
invariant-loop-cell l = record {
  counts : vec_len l.cells ≡ vec_len l.initial.cells;
  read : (k : ℕ) → k < l.cell → get_or l.cells.items k 0 ≡ get_or (slots_items l.closed.words) (l.from + k) 0;
}
