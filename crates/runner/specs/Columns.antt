-- Rows that are made columns.
use Rattle.std.specs.Prelude.{◌≡◌, ℕ, List, Some, length, slice_get}

-- So many columns, each of which has an item of each row, in the order of the rows: that which stands in the row at the
-- place of the column.
pub record AreColumns {T : Type 0} (width : ℕ) (rows columns : List (List T)) : Type 0 where
  pub wide : length columns ≡ width
  pub tall : (at : ℕ) (column : List T) → slice_get columns at ≡ Some column → length column ≡ length rows
  pub item : (at row : ℕ) (column here : List T) → slice_get columns at ≡ Some column → slice_get rows row ≡ Some here
      → slice_get column row ≡ slice_get here at
