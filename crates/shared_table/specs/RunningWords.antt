-- The invariant of the shared words: one legal list has what the seats hold, and leaves the words as they stand.
use Rattle.std.specs.Prelude.{◌≡◌, ◌≢◌, ◌≤◌, ℕ, List, [], All, length}
use mathlib.Core.Option.{some}
use lib.ListN.{get_elem?}
use Rattle.slot_table.specs.Discipline.{LegalInDiscipline}
use Rattle.slot_table.specs.Records.{records_of, words_after}
use Rattle.slot_table.specs.declared.records.Record.{Record}
use Rattle.shared_table.specs.Given.{Given, first_words}
use Rattle.shared_table.specs.Row.{row_length, words_in}
use Rattle.shared_table.specs.declared.view.Held.{Held}
use Rattle.shared_table.specs.declared.view.View.{View}

-- what a seat with this view holds of a task: all that the list has of it, and no other seat holds
-- that task
pub record IsHeld (given : Given) (records : List Record) (seat_of : ℕ → ℕ) (seat : ℕ)
    (view : View) (held : Held) : Type 0 where
  pub knows : view.opening ≡ given
  pub only : seat_of held.task ≡ seat
  pub all : records_of held.task records ≡ held.records

-- no seat holds a task
abbrev pub IsHeldByNobody : List View → ℕ → Type 0
IsHeldByNobody views task =
    (seat : ℕ) (view : View) → get_elem? views seat ≡ some view
    → All (λ held. held.task ≢ task) view.held

-- the rule: there is a list that is legal, each task by the discipline, whose records of each task
-- are those that the seats hold for it, and after which the words stand as they do
pub record RunningWords (given : Given) (row : List ℕ) (views : List View) : Type 0 where
  pub records : List Record
  pub legal : LegalInDiscipline given.page_slots given.locks given.cells records
  pub counts : length row ≡ row_length given
  pub stand : words_in given row ≡ words_after (first_words given) records
  pub seat_of : ℕ → ℕ
  pub held : (seat : ℕ) (view : View) → get_elem? views seat ≡ some view
      → All (IsHeld given records seat_of seat view) view.held
  -- a task that no seat holds has no record, nor has one that isn't the table's
  pub nobody : (task : ℕ) → IsHeldByNobody views task → records_of task records ≡ []
  pub others : (task : ℕ) → given.tasks ≤ task → records_of task records ≡ []
