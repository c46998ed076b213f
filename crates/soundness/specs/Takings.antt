-- The one answer that each taking has.
use Rattle.std.specs.Prelude.{◌≡◌, ◌≢◌, ◌==◌, ◌&&◌, ℕ, Bool, false, List, [], ◌∷◌, Option, None, Some, map}
use Rattle.std.specs.List.{filter}
use Rattle.executions.specs.execution.Answers.{is_answer}
use Rattle.executions.specs.execution.Run.{Run}
use Rattle.executions.specs.execution.Execution.{Execution}
use Rattle.executions.specs.execution.Observed.{Armed, OutcomeAt, armed_by, came_next, outcomes_of}
use Rattle.slot_table.specs.Discipline.{in_hand}
use Rattle.slot_table.specs.Hearings.{IsTaking, SomeRecord}
use Rattle.slot_table.specs.Records.{records_of}
use Rattle.slot_table.specs.declared.records.Record.{Record}
use Rattle.soundness.specs.Settles.{Settles}

-- each of these records settles what is told of it
abbrev pub EachSettles : {run : Run} {all : List Record} → Execution run all → List Record → Type 0
EachSettles list [] = Unit {0}
EachSettles list (latest ∷ earlier) =
    EachSettles list earlier
    × Settles (in_hand (records_of latest.task earlier)) latest.step latest.answer
    (map (λ came. came.outcome) (came_next list latest earlier))

-- the arming is the one with this number, at this index
abbrev pub is_armed : ℕ → ℕ → Option Armed → Bool
is_armed index number None = false
is_armed index number (Some armed) = armed.index == index && armed.number == number

-- the outcome answers a taking of that arming
abbrev pub answers : ℕ → ℕ → OutcomeAt → Bool
answers index number came = is_answer came.outcome && is_armed index number came.arming

-- the arming with this number at this index was taken
pub record WasTaken (index number : ℕ) (records : List Record) : Type 0 where
  pub finder : ℕ
  pub word : ℕ
  pub taking : SomeRecord (IsTaking index number finder word) records

-- no task has it in hand any more: its finder has told, and its setter has given the index back
abbrev pub IsTakingOver : ℕ → ℕ → List Record → Type 0
IsTakingOver index number records =
    (task : ℕ) → armed_by task records ≢ Some (record { index = index; number = number })

-- all answers that an execution tells to takings of that arming
abbrev pub answers_to : {run : Run} {all : List Record} → Execution run all → ℕ → ℕ → List OutcomeAt
answers_to list index number = filter (answers index number) (outcomes_of list)

-- there is one, and no other
pub record HasOneAnswer {run : Run} {all : List Record} (list : Execution run all) (index number : ℕ) :
    Type 0 where
  pub answer : OutcomeAt
  pub only : answers_to list index number ≡ answer ∷ []
