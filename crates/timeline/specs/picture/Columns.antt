-- The columns of a picture.
use Rattle.std.specs.Prelude.{◌≡◌, ◌==◌, ◌∷◌, [], ℕ, Bool, List, filter, map}
use Rattle.std.specs.List.Sorted.{IsPermutation}
use Rattle.access_types.specs.Stamped.{Stamped}
use Rattle.timeline.specs.picture.Running.{IsInOrder}
use Rattle.timeline.specs.declared.picture.columns.Column.{Column}

-- the tasks that there can be
abbrev pub tasks : List ℕ
tasks = 0 ∷ 1 ∷ 2 ∷ 3 ∷ 4 ∷ 5 ∷ 6 ∷ 7 ∷ 8 ∷ 9 ∷ 10 ∷ 11 ∷ 12 ∷ 13 ∷ 14 ∷ 15 ∷ []

-- the access is of the task
abbrev pub is_of : ℕ → Stamped → Bool
is_of task s = s.access.task == task

-- when those of the task begin, and when they end
abbrev pub begins_in : List Stamped → ℕ → List ℕ
begins_in accesses task = map (λ s. s.begin) (filter (is_of task) accesses)

abbrev pub ends_in : List Stamped → ℕ → List ℕ
ends_in accesses task = map (λ s. s.end) (filter (is_of task) accesses)

-- it is the column of the task
pub record IsColumnOf (accesses : List Stamped) (task : ℕ) (column : Column) : Type 0 where
  pub task_is : column.task ≡ task
  pub begins : IsPermutation (begins_in accesses task) column.begins.items
  pub ends : IsPermutation (ends_in accesses task) column.ends.items
  pub in_order : IsInOrder column
