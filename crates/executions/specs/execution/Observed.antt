-- What a list of steps tells: what its tasks did, moment by moment, and what came of their checks.
-- What its tasks would still do is as it completes their records in the written order.
use Rattle.std.specs.Prelude.{◌++◌, ℕ, zero, suc, List, [], ◌∷◌, Option, None, Some, length, map}
use Rattle.std.specs.Option.{option_map}
use Rattle.access_types.specs.Access.{Access}
use Rattle.access_types.specs.History.{History}
use Rattle.access_types.specs.declared.history.Happening.{Happening}
use Rattle.executions.specs.execution.Run.{Run}
use Rattle.executions.specs.execution.Execution.{Execution}
use Rattle.setup_access.specs.Check.{Fallen}
use Rattle.setup_access.specs.declared.outcome.Outcome.{Outcome}
use Rattle.slot_table.specs.Armings.{last_arming_number}
use Rattle.slot_table.specs.Discipline.{in_hand}
use Rattle.slot_table.specs.Records.{records_of}
use Rattle.slot_table.specs.declared.discipline.InHand.{InHand}
use Rattle.slot_table.specs.declared.records.Record.{Record}
use Rattle.program_order.specs.TaskObserved.{did_by, did_next, fell_next}

-- what a task did, as moments
abbrev pub moments_of : ℕ → List Happening → History
moments_of task did = map (λ happening. record { task = task; happening = happening }) did

-- what so many tasks did before their first steps, by task
abbrev pub first_moments : {run : Run} {all : List Record} → Execution run all → ℕ → History
first_moments list zero = []
first_moments list (suc task) =
    first_moments list task ++ moments_of task (did_by (list.tasks task) 0)

-- how many records a task made in a list
abbrev pub made_by : ℕ → List Record → ℕ
made_by task records = length (records_of task records)

-- The history that an execution tells by some of its records, the latest first: what the tasks did
-- before their first steps, and then, record by record, what the record's task did with it and
-- before its next.
abbrev pub history_by : {run : Run} {all : List Record} → Execution run all → List Record → History
history_by {run = run} list [] = first_moments list (length run.program.tasks)
history_by list (latest ∷ earlier) =
    history_by list earlier
    ++ moments_of latest.task (did_next (list.tasks latest.task) (made_by latest.task earlier))

-- an arming, by its index and its number
pub record Armed : Type 0 where
  pub index : ℕ
  pub number : ℕ

-- the last arming at the index that is in a task's hand
abbrev pub armed_in : Option InHand → List Record → Option Armed
armed_in None records = None
armed_in (Some hand) records =
    option_map (λ number. record { index = hand.index; number = number })
    (last_arming_number hand.index records)

-- the arming that a task has in hand, if it has one
abbrev pub armed_by : ℕ → List Record → Option Armed
armed_by task records = armed_in (in_hand (records_of task records)) records

-- what came of checking an access once, at the record before which so many stand in the list, and the
-- arming that its task has in hand since then
pub record OutcomeAt : Type 0 where
  pub access : Access
  pub outcome : Outcome
  pub at : ℕ
  pub arming : Option Armed

abbrev pub outcome_at : ℕ → Option Armed → Fallen → OutcomeAt
outcome_at at arming fallen =
    record { access = fallen.access; outcome = fallen.outcome; at = at; arming = arming }

-- the outcomes of a task's checks that fell at its record after these
abbrev pub came_next : {run : Run} {all : List Record} → Execution run all → Record → List Record
    → List OutcomeAt
came_next list latest earlier =
    map (outcome_at (length earlier) (armed_by latest.task (latest ∷ earlier)))
    (fell_next (list.tasks latest.task) (made_by latest.task earlier))

-- the outcomes that it tells by these records, in the order of those at which they fell
abbrev pub outcomes_by : {run : Run} {all : List Record} → Execution run all → List Record → List OutcomeAt
outcomes_by list [] = []
outcomes_by list (latest ∷ earlier) = outcomes_by list earlier ++ came_next list latest earlier

-- all that the whole list tells
abbrev pub history_of : {run : Run} {all : List Record} → Execution run all → History
history_of {all = all} list = history_by list all

abbrev pub outcomes_of : {run : Run} {all : List Record} → Execution run all → List OutcomeAt
outcomes_of {all = all} list = outcomes_by list all
