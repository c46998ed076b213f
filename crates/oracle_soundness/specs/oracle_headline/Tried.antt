-- The headline, of a list of steps and of a history and outcomes that are given beside it.
use Rattle.std.specs.Prelude.{◌≡◌, ◌≢◌, ◌≤◌, ◌+◌, ◌==◌, ◌&&◌, ℕ, Bool, true, false, List, All, AllPairs, Contains, IsTrue, Option, None, Some}
use Rattle.std.specs.Prelude.{count_by, length, slice_index_or}
use Rattle.access_types.specs.Access.{Access}
use Rattle.access_types.specs.History.{History, InProgress, Memory, ending}
use Rattle.access_types.specs.Race.{ChangedUnderWatch, TrueRace}
use Rattle.access_types.specs.Ticket.{ticket_number}
use Rattle.access_types.specs.declared.history.Moment.{Moment}
use Rattle.oracle_soundness.specs.declared.oracle_headline.told.Armed.{Armed}
use Rattle.oracle_soundness.specs.declared.oracle_headline.told.Came.{Came}
use Rattle.oracle_soundness.specs.declared.oracle_headline.told.ToldExecution.{ToldExecution}
use Rattle.setup_access.specs.declared.outcome.Outcome.{Outcome}
use Rattle.setup_access.specs.declared.outcome.Outcome.TheVariants as outcomes
use Rattle.slot.specs.Pair.{Halves}
use Rattle.slot_table.specs.Armings.{armings_taken}
use Rattle.slot_table.specs.Hearings.{IsArming, IsTaking, SomeRecord}
use Rattle.slot_table.specs.Meetings.{Meeting, finders_told}
use Rattle.slot_table.specs.declared.records.Record.{Record}
use Rattle.slot_table.specs.declared.step.Answer.{Answer}
use Rattle.slot_table.specs.declared.step.Step.{Step}
use Rattle.slot_table.specs.declared.step.Step.TheVariants.{TryConsume}
use Rattle.task_log.specs.Counters.{is_arming, is_encoding, is_lost, is_masked, is_quiet, is_same, is_taken}
use Rattle.task_log.specs.Counters.{is_two_sided, is_unknown}

-- A list of steps, the latest first, and what is told of it: what memory held at first, what its tasks did,
-- of which so many moments were told by its first so many steps, what came of their checks, and whether all
-- of them have ended.
pub record Account : Type 0 where
  pub atomic : Bool
  pub initial : Memory
  pub accesses : List Access
  pub records : List Record
  pub history : History
  pub moments : ℕ → ℕ
  pub outcomes : List Came
  pub ended : Bool

-- how many moments were told by so many steps
abbrev pub moments_by : ToldExecution → ℕ → ℕ
moments_by told count = slice_index_or told.moments.items count 0

-- what is told, where memory is 0 at first
abbrev pub account_of : ToldExecution → Account
account_of told = record {
  atomic = told.atomic;
  initial = λ _. 0;
  accesses = told.accesses.items;
  records = told.records.items;
  history = told.history.items;
  moments = moments_by told;
  outcomes = told.outcomes.items;
  ended = told.ended;
}

-- The pair of tickets names the access that was checked and this finder, which told it of the arming. In the
-- history the two race.
pub record NamesRaceWith (told : Account) (came : Came) (pair : Halves) (finder : Access) : Type 0 where
  pub arming : Armed
  pub armed : came.arming ≡ Some arming
  pub setter_named : pair.setter ≡ ticket_number came.access
  pub finder_named : pair.finder ≡ ticket_number finder
  pub told_of : Contains (finders_told told.records) (record {
    index = arming.index;
    number = arming.number;
    setter = pair.setter;
    finder = pair.finder;
  })
  pub race : TrueRace told.atomic told.history came.access finder

-- so it names some access of the program
pub record NamesRace (told : Account) (came : Came) (pair : Halves) : Type 0 where
  pub finder : Access
  pub there : Contains told.accesses finder
  pub names : NamesRaceWith told came pair finder

-- a report of two sides names a true race, by the ticket that the finder told, and one of unknown origin bytes that
-- changed
abbrev pub IsTrueIn : Account → Came → Outcome → Type 0
IsTrueIn told came (outcomes.Report pair seen) = NamesRace told came pair
IsTrueIn told came (outcomes.Unknown old new) = ChangedUnderWatch told.initial told.history came.access old new
IsTrueIn told came outcome = Unit {0}

abbrev pub IsTrueOf : Account → Came → Type 0
IsTrueOf told came = IsTrueIn told came came.outcome

-- the outcome is a report of two sides or a named discard
abbrev pub is_answer : Outcome → Bool
is_answer (outcomes.Report pair seen) = true
is_answer (outcomes.Dropped reason) = true
is_answer outcome = false

-- the arming is the one with this number, at this index
abbrev pub is_armed : ℕ → ℕ → Option Armed → Bool
is_armed index number None = false
is_armed index number (Some armed) = armed.index == index && armed.number == number

-- the outcome answers a taking of that arming
abbrev pub answers : ℕ → ℕ → Came → Bool
answers index number came = is_answer came.outcome && is_armed index number came.arming

-- the arming has one answer
pub record Answered (told : Account) (index number : ℕ) : Type 0 where
  pub once : count_by (answers index number) told.outcomes ≡ 1

abbrev pub IsAnswered : Account → Meeting → Type 0
IsAnswered told met = Answered told met.index met.number

-- the moment ends an access of the task that was in progress after so many moments
pub record EndsGoing (history : History) (task count : ℕ) (moment : Moment) : Type 0 where
  pub access : Access
  pub is : moment ≡ ending access
  pub mine : access.task ≡ task
  pub goes : InProgress history access count

-- an access of the task that was in progress after so many moments has ended
pub record HasEnded (history : History) (task count : ℕ) : Type 0 where
  pub access : Access
  pub mine : access.task ≡ task
  pub goes : InProgress history access count
  pub ended : Contains history (ending access)

-- A record of this kind stands in the list, and an access of its task that was in progress as it was made
-- has ended.
abbrev pub HasEndedSince : Account → (Record → List Record → Type 0) → List Record → Type 0
HasEndedSince told P records =
    SomeRecord (λ made earlier. P made earlier × HasEnded told.history made.task (told.moments (length earlier))) records

-- the arming was made at this index with this number, for an access that has ended since
pub record WasArmed (told : Account) (index number : ℕ) (records : List Record) : Type 0 where
  pub setter : ℕ
  pub word : ℕ
  pub there : HasEndedSince told (IsArming index number setter word) records

-- it was taken for an access that has ended since
pub record WasTaken (told : Account) (index number : ℕ) (records : List Record) : Type 0 where
  pub finder : ℕ
  pub word : ℕ
  pub there : HasEndedSince told (IsTaking index number finder word) records

-- the armings of these records that were taken, and whose two accesses ended, have one answer each
abbrev pub TakingsAnswered : Account → List Record → Type 0
TakingsAnswered told records =
    (index number : ℕ) → WasTaken told index number records → WasArmed told index number told.records
    → Answered told index number

-- a watchpoint that was found is tried
abbrev pub is_try : Step → Answer → Bool
is_try (TryConsume index word) answer = true
is_try step answer = false

-- how many of these records are of such a step with such an answer
abbrev pub made_so : (Step → Answer → Bool) → List Record → ℕ
made_so is records = count_by (λ made. is made.step made.answer) records

-- how many of these outcomes are such
abbrev pub came_so : (Option Outcome → Bool) → List Came → ℕ
came_so is outcomes = count_by (λ came. is (Some came.outcome)) outcomes

-- Each arming ends quiet or taken. Each try takes or loses. Each arming that ends taken is reported on
-- two sides, or dropped: for its encoding, the same value, or the mask. Only one that ends quiet may
-- bring a report of unknown origin.
pub record Totals (records : List Record) (outcomes : List Came) : Type 0 where
  pub arms : made_so is_arming records ≡ made_so is_quiet records + made_so is_taken records
  pub tries : made_so is_try records ≡ made_so is_taken records + made_so is_lost records
  pub taken : made_so is_taken records
      ≡ came_so is_two_sided outcomes + came_so is_encoding outcomes + came_so is_same outcomes
      + came_so is_masked outcomes
  pub unknown : came_so is_unknown outcomes ≤ made_so is_quiet records

-- No arming is taken twice. Each report is true. Each taking whose two accesses ended gave one report or
-- one named discard. Once all tasks have ended the totals agree.
pub record HasHeadline (told : Account) : Type 0 where
  pub taken_once : AllPairs ◌≢◌ (armings_taken told.records)
  pub reports : All (IsTrueOf told) told.outcomes
  pub one_answer : TakingsAnswered told told.records
  pub totals : IsTrue told.ended → Totals told.records told.outcomes
