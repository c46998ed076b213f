-- Rows in which one value more is set.
use Rattle.std.proofs.Common.{◌≡◌, ◌∷◌, ◌++◌, ◌/◌, ◌%◌, ℕ, List, [], refl, zero, suc}
use Rattle.std.specs.Prelude.{Vec, slice_get}
use Rattle.trace_replay.specs.Table.{in_row, in_rows}

-- an empty row more has no values
empty_row : {V A : Type 0} (rows : List (Vec V A)) (row : Vec V A) → row.items ≡ [] → (i place : ℕ) (none : V)
    → in_row (slice_get (rows ++ row ∷ []) i) place none ≡ in_row (slice_get rows i) place none
empty_row [] row e zero place none = rw e refl
empty_row [] row e (suc i) place none = refl
empty_row (r ∷ rows) row e zero place none = refl
empty_row (r ∷ rows) row e (suc i) place none = empty_row rows row e i place none

pub one_row_more : {V A : Type 0} (rows : List (Vec V A)) (row : Vec V A) → row.items ≡ [] → (none : V) (number : ℕ)
    → in_rows (rows ++ row ∷ []) none number ≡ in_rows rows none number
one_row_more rows row e none number = empty_row rows row e (number / 256) (number % 256) none
