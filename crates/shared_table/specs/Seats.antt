-- A task's seat at a table, the steps that it may make there, and the lists that have its records.
use Rattle.std.specs.Prelude.{◌≡◌, ℕ, List, [], ◌∷◌, map}
use Rattle.std.specs.List.{range_with_len}
use Rattle.atomic_table.specs.Seated.{TableId}
use Rattle.slot_table.specs.Discipline.{Allows, LegalInDiscipline}
use Rattle.slot_table.specs.Records.{records_of}
use Rattle.slot_table.specs.StepLine.{Names}
use Rattle.slot_table.specs.declared.records.Record.{Record}
use Rattle.slot_table.specs.declared.step.Answer.{Answer}
use Rattle.slot_table.specs.declared.step.Step.{Step}
use Rattle.shared_table.specs.Given.{Given, first_words}

-- which table it is, and what it was made for
pub record Opened : Type 0 where
  pub id : TableId
  pub given : Given

-- a task's seat at a table, and all records of its steps, the latest first
pub record Sitting : Type 0 where
  pub table : Opened
  pub task : ℕ
  pub records : List Record

-- a task may make a step: it names words of the table, and the discipline allows it next
pub record MayMake (seat : Sitting) (step : Step) : Type 0 where
  pub names : Names (first_words seat.table.given) step
  pub allowed : Allows seat.task seat.records step

-- the seat after a step of its task: its records are those before and this one
abbrev pub seat_after : Sitting → Step → Answer → Sitting
seat_after seat step answer =
    record seat {
      records = record { task = seat.task; step = step; answer = answer } ∷ seat.records;
    }

-- a seat for each of so many tasks, in their order, with no record
abbrev pub new_seats : Opened → ℕ → List Sitting
new_seats opened tasks =
    map (λ task. record { table = opened; task = task; records = [] }) (range_with_len 0 tasks)

-- the list is legal from the first words on, each task by the discipline, and these are all records
-- that it has of a task
pub record IsListWith (given : Given) (task : ℕ) (own records : List Record) : Type 0 where
  pub legal : LegalInDiscipline given.page_slots given.locks given.cells records
  pub all : records_of task records ≡ own

-- such a list, with the records that a seat holds of its task
abbrev pub IsListAt : Sitting → List Record → Type 0
IsListAt seat records = IsListWith seat.table.given seat.task seat.records records
