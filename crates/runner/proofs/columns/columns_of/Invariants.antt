-- Each column has an item of each row so far.
use Rattle.std.proofs.Common.{◌≡◌, ◌≤◌, ◌++◌, ℕ, Some, length, slice_get, vec_capacity}
use Rattle.std.specs.Vec.Iter.{into_iter_items, into_iter_len}
use Rattle.runner.proofs.columns.columns_of.Given as goal

abbrev pub invariant-loop-row : goal.invariant-loop-row
invariant-loop-row g l = record {
  wide : length l.columns.items ≡ l.width;
  rows : l.yielded ++ into_iter_items l.row-iterator ≡ into_iter_items l.initial.row-iterator;
  tall : (at : ℕ) (column : _) → slice_get l.columns.items at ≡ Some column → length column.items ≡ length l.yielded;
  room : (at : ℕ) (column : _) → slice_get l.columns.items at ≡ Some column → into_iter_len l.initial.row-iterator ≤ vec_capacity column;
  item : (at k : ℕ) (column : _) (row : _) → slice_get l.columns.items at ≡ Some column → slice_get l.yielded k ≡ Some row
      → slice_get column.items k ≡ slice_get row.items at;
}
