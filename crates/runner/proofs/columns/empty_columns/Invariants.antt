-- Each column so far is empty and has room, and there is room for the rest.
use Rattle.std.proofs.Common.{◌≡◌, ◌≤◌, [], ℕ, Some, slice_get, vec_capacity, vec_len}
use Rattle.runner.proofs.columns.empty_columns.Given as goal

abbrev pub invariant-loop : goal.invariant-loop
invariant-loop g l = record {
  made : vec_len l.columns ≡ l.counter;
  room : l.width ≤ vec_capacity l.columns;
  empty : (at : ℕ) (column : _) → slice_get l.columns.items at ≡ Some column → (column.items ≡ []) × (l.height ≤ vec_capacity column);
}
