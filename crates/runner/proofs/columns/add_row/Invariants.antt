-- The columns before a place have the item of the row there, and the others are as they were.
use Rattle.std.proofs.Common.{◌≡◌, ◌≤◌, ◌<◌, ◌+◌, ◌++◌, ◌∷◌, [], ℕ, Some, length, slice_get, vec_capacity}
use Rattle.std.specs.Vec.Iter.{into_iter_items, into_iter_len}
use Rattle.runner.proofs.columns.add_row.Given as goal

abbrev pub invariant-loop-item : goal.invariant-loop-item
invariant-loop-item g l = record {
  made : l.at + into_iter_len l.item-iterator ≡ into_iter_len l.initial.item-iterator;
  wide : length l.columns.items ≡ length l.initial.columns.items;
  rest : (k : ℕ) (item : _) → slice_get (into_iter_items l.item-iterator) k ≡ Some item
      → slice_get (into_iter_items l.initial.item-iterator) (l.at + k) ≡ Some item;
  added : (k : ℕ) (was : _) (column : _) (item : _) → k < l.at → slice_get l.initial.columns.items k ≡ Some was
      → slice_get (into_iter_items l.initial.item-iterator) k ≡ Some item → slice_get l.columns.items k ≡ Some column
      → (column.items ≡ was.items ++ item ∷ []) × (vec_capacity column ≡ vec_capacity was);
  same : (k : ℕ) → l.at ≤ k → slice_get l.columns.items k ≡ slice_get l.initial.columns.items k;
}
