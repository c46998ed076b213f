-- An operation that a seat may make on a word of the row: it keeps the invariant, and notes one record.
use Rattle.std.specs.Prelude.{◌≡◌, ◌<◌, ℕ, List}
use Rattle.atomic_table.specs.Table.{Allows, State}
use Rattle.atomic_table.specs.declared.shared.Seat.{Seat}
use Rattle.slot_table.specs.declared.records.Record.{Record}
use Rattle.slot_table.specs.declared.step.Answer.{Answer}
use Rattle.slot_table.specs.declared.step.Step.{Step}
use Rattle.shared_table.specs.Plays.{Me}
use Rattle.shared_table.specs.Row.{row_length}
use Rattle.shared_table.specs.RunningWords.{RunningWords}
use Rattle.shared_table.specs.Seats.{IsListWith, Opened}
use Rattle.shared_table.specs.Views.{noted, own_records, own_task}
use Rattle.shared_table.specs.declared.view.View.{View}

-- a legal list has just the records that a seat of one task holds
abbrev pub HasList : View → Type 0
HasList view =
    (records : List Record)
    × IsListWith view.opening (own_task view.held) (own_records view.held) records

-- the seat has noted one record, and nothing else
abbrev pub NotesOne : View → View → Type 0
NotesOne before after = (step : Step) × (answer : Answer) × (after ≡ noted before step answer)

-- what is told of an operation, which notes one record at the seat
abbrev pub NotesAndKeeps : (ℕ → Me → Type 0) → Me → ℕ → Me → Type 0
NotesAndKeeps then before found after = then found after × NotesOne before.0 after.0 × HasList after.0

-- a seat may make an operation on the word at a place, which becomes `change` of what it was: this
-- keeps the rule, and notes one record
abbrev pub MayTouch : Opened → Seat (Unit {0}) View → ℕ → (ℕ → ℕ) → (ℕ → Me → Type 0) → Type 0
MayTouch opened seat place change then =
    (seat.table_id ≡ opened.id) × (place < row_length opened.given)
    × Allows (λ (state : State (Unit {0}) View). RunningWords opened.given state.words state.views)
    opened.id.slots seat.id seat.me place change (NotesAndKeeps then seat.me)

-- it has made it
abbrev pub HasTouched : Seat (Unit {0}) View → Seat (Unit {0}) View → (Me → Type 0) → Type 0
HasTouched before after then =
    (after.table_id ≡ before.table_id) × (after.id ≡ before.id) × then after.me
