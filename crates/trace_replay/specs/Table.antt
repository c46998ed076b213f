-- What a table says of each number.
use Rattle.std.specs.Prelude.{◌/◌, ◌%◌, nat_lt, ℕ, List, Option, None, Some, Vec, cond, get_or, nat_eq, slice_get, unwrap_or}
use Rattle.indexmap.specs.IndexMap.{get}
use Rattle.trace_replay.specs.declared.table.Table.{Table}

-- the value at a place of a row, where there is such a row
abbrev pub in_row : {V A : Type 0} → Option (Vec V A) → ℕ → V → V
in_row None place none = none
in_row (Some row) place none = get_or row.items place none

-- the value of a number in rows
abbrev pub in_rows : {V A : Type 0} → List (Vec V A) → V → ℕ → V
in_rows rows none number = in_row (slice_get rows (number / 256)) (number % 256) none

-- the value of a number
abbrev pub value_at : {V : Type 0} → Table V → ℕ → V
value_at table number = cond (nat_lt number table.limit) (in_rows table.rows.items table.none number)
    (unwrap_or (get nat_eq table.others number) table.none)
