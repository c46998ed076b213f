-- What an execution tells, as what is told of a list that is given.
use Rattle.std.specs.Prelude.{◌≡◌, ◌≢◌, ◌-◌, ℕ, Bool, List, All, AllPairs, Contains, IsTrue, drop, length, map}
use Rattle.std.specs.Option.{option_map}
use Rattle.access_types.specs.Access.{Access}
use Rattle.access_types.specs.Race.{TrueRace}
use Rattle.access_types.specs.Ticket.{ticket_number}
use Rattle.oracle_soundness.specs.oracle_headline.Tried.{Account}
use Rattle.oracle_soundness.specs.declared.oracle_headline.told.Armed as given
use Rattle.oracle_soundness.specs.declared.oracle_headline.told.Came.{Came}
use Rattle.litmus_semantics.specs.Layout.{memory_at_first}
use Rattle.soundness.specs.Headline.{BothHaveEnded}
use Rattle.soundness.specs.Origins.{NamesChange}
use Rattle.soundness.specs.Totals.{Totals}
use Rattle.executions.specs.execution.Run.{IsOfProgram, Run}
use Rattle.executions.specs.execution.Execution.{Execution}
use Rattle.executions.specs.execution.Observed.{Armed, OutcomeAt, history_by, history_of, outcomes_of}
use Rattle.soundness.specs.Takings.{HasOneAnswer}
use Rattle.setup_access.specs.declared.outcome.Outcome.{Outcome}
use Rattle.setup_access.specs.declared.outcome.Outcome.TheVariants as outcomes
use Rattle.slot.specs.Pair.{Halves}
use Rattle.slot_table.specs.Armings.{armings_taken}
use Rattle.slot_table.specs.declared.records.Record.{Record}

-- an arming, and an outcome
abbrev pub armed_as : Armed → given.Armed
armed_as armed = record { index = armed.index; number = armed.number }

abbrev pub came_as : OutcomeAt → Came
came_as came = record { access = came.access; outcome = came.outcome; arming = option_map armed_as came.arming }

-- the first so many records of a list, the latest first
abbrev pub first_records : List Record → ℕ → List Record
first_records records count = drop (length records - count) records

-- what the list tells
abbrev pub account_of : {run : Run} {records : List Record} → Execution run records → List Access → Bool → Account
account_of {run = run} {records = records} list accesses ended = record {
  atomic = run.rules.plain_writes_atomic;
  initial = memory_at_first run.places run.program.variables;
  accesses = accesses;
  records = records;
  history = history_of list;
  moments = λ count. length (history_by list (first_records records count));
  outcomes = map came_as (outcomes_of list);
  ended = ended;
}

-- each access of the program is one of these
abbrev pub HoldsAccesses : Run → List Access → Type 0
HoldsAccesses run accesses = (a : Access) → IsOfProgram run a → Contains accesses a

-- the pair names a true race of the access that was checked with another, in the history that the list tells
pub record RacesWith {run : Run} {records : List Record} (list : Execution run records) (came : OutcomeAt)
    (pair : Halves) : Type 0 where
  pub finder : Access
  pub setter_named : pair.setter ≡ ticket_number came.access
  pub finder_named : pair.finder ≡ ticket_number finder
  pub race : TrueRace run.rules.plain_writes_atomic (history_of list) came.access finder

abbrev pub IfRaces : {run : Run} {records : List Record} → Execution run records → OutcomeAt → Outcome → Type 0
IfRaces list came (outcomes.Report pair seen) = RacesWith list came pair
IfRaces list came outcome = Unit {0}

abbrev pub IsOfRace : {run : Run} {records : List Record} → Execution run records → OutcomeAt → Type 0
IsOfRace list came = IfRaces list came came.outcome

-- what the headline of executions says too, in its own words
pub record SaysAlike {run : Run} {records : List Record} (list : Execution run records) (ended : Bool) : Type 0 where
  pub taken_once : AllPairs ◌≢◌ (armings_taken records)
  pub races : All (IsOfRace list) (outcomes_of list)
  pub origins : All (NamesChange list) (outcomes_of list)
  pub one_answer : (index number : ℕ) → BothHaveEnded list index number → HasOneAnswer list index number
  pub totals : IsTrue ended → Totals records (outcomes_of list)
