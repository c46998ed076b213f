-- The order of a picture's stamps, which those who write it rely on.
use Rattle.std.specs.Prelude.{ℕ, List, All, count_by, nat_lt}
use Rattle.std.specs.List.Sorted.{IsNonDecreasingBy}
use Rattle.timeline.specs.picture.Running.{IsInOrder}
use Rattle.timeline.specs.declared.picture.draw.Picture.{Picture}
use Rattle.timeline.specs.declared.picture.rows.Row.{Row}

-- the stamps of the rows, and those of each column, rise
pub record IsOrdered (picture : Picture) : Type 0 where
  pub rows_rise : IsNonDecreasingBy (λ row. row.stamp) picture.rows.items
  pub columns_rise : All IsInOrder picture.columns.items

-- how many of the rows stand before the stamp
abbrev pub rows_before : List Row → ℕ → ℕ
rows_before rows stamp = count_by (λ row. nat_lt row.stamp stamp) rows
