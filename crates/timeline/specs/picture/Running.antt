-- How many accesses of a column are in progress.
use Rattle.std.specs.Prelude.{◌-◌, ℕ, count_by, nat_le}
use Rattle.std.specs.List.Sorted.{IsNonDecreasing}
use Rattle.timeline.specs.declared.picture.columns.Column.{Column}

-- the stamps of the column stand in rising order
pub record IsInOrder (column : Column) : Type 0 where
  pub begins_rise : IsNonDecreasing column.begins.items
  pub ends_rise : IsNonDecreasing column.ends.items

-- those that have begun at the stamp, without those that have ended
abbrev pub running : Column → ℕ → ℕ
running column stamp = count_by (λ begin. nat_le begin stamp) column.begins.items - count_by (λ end. nat_le end stamp) column.ends.items
