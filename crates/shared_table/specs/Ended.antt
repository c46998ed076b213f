-- What is left of a table of shared words, and the one legal list that has all records of its seats.
use Rattle.std.specs.Prelude.{◌≡◌, ◌≢◌, ◌<◌, ◌≤◌, ℕ, List, All, []}
use Rattle.std.specs.List.{Contains}
use Rattle.slot_table.specs.Discipline.{AllAreFinished, IsFinished, LegalInDiscipline}
use Rattle.slot_table.specs.Records.{records_of, words_after}
use Rattle.slot_table.specs.declared.records.Record.{Record}
use Rattle.shared_table.specs.Given.{Given, first_words}
use Rattle.shared_table.specs.Seats.{Sitting}
use Rattle.shared_table.specs.declared.view.Held.{Held}

-- what is left of a table: what it was made for, what the cells hold at the end, and its seats
pub record Ended : Type 0 where
  pub given : Given
  pub cells : List ℕ
  pub seats : List Sitting

-- some seat is a task's
abbrev pub HasSeat : ℕ → List Sitting → Type 0
HasSeat task seats = (seat : Sitting) × Contains seats seat × (seat.task ≡ task)

-- a task of the table has no seat among these
abbrev pub IsMissing : Given → List Sitting → Type 0
IsMissing given seats =
    (task : ℕ) × (task < given.tasks) × All (λ seat. seat.task ≢ task) seats

-- some seat has a check unfinished
abbrev pub HasUnfinished : List Sitting → Type 0
HasUnfinished seats = (seat : Sitting) × Contains seats seat × ¬ (IsFinished seat.records)

-- one legal list has all records of all seats, each task by the discipline and with no check
-- unfinished, and the cells hold what they do after it
pub record IsListOf (ended : Ended) (records : List Record) : Type 0 where
  pub legal : LegalInDiscipline ended.given.page_slots ended.given.locks ended.given.cells records
  pub seats : All (λ seat. records_of seat.task records ≡ seat.records) ended.seats
  -- each task has a seat, and no other task has a record
  pub everyone : (task : ℕ) → task < ended.given.tasks → HasSeat task ended.seats
  pub others : (task : ℕ) → ended.given.tasks ≤ task → records_of task records ≡ []
  pub finished : AllAreFinished records
  pub cells : ended.cells ≡ (words_after (first_words ended.given) records).cells

-- what a seat holds of its task
abbrev pub held_by : Sitting → Held
held_by seat = record { task = seat.task; records = seat.records }
