-- What an execution shows of a pair of sites: accesses at both that are in progress at one moment, that race, that are
-- marked or silenced, reports of the two, and takings between them.
use Rattle.std.specs.Prelude.{◌≡◌, ◌⊎◌, ℕ, suc, Contains, IsTrue, List, None, Option, Some, reverse, slice_get}
use Rattle.access_types.specs.Access.{Access}
use Rattle.access_types.specs.History.{History, InProgress, Memory, content}
use Rattle.access_types.specs.Marked.{CountedAsMarked, Silenced}
use Rattle.access_types.specs.Kind.{is_scoped}
use Rattle.access_types.specs.Race.{Differ, TrueRace, bytes_of}
use Rattle.access_types.specs.Ticket.{ticket_number}
use Rattle.access_types.specs.declared.history.Happening.{Happening}
use Rattle.access_types.specs.declared.history.Happening.TheVariants.{Write}
use Rattle.access_types.specs.declared.history.Moment.{Moment}
use Rattle.access_types.specs.declared.report.Report.TheVariants as reports
use Rattle.access_types.specs.declared.report.ValueChange.{ValueChange}
use Rattle.executions.specs.execution.Execution.{Execution}
use Rattle.executions.specs.execution.Observed.{OutcomeAt, history_of, outcomes_of}
use Rattle.executions.specs.execution.Reports.{reports_of}
use Rattle.executions.specs.execution.Run.{Run}
use Rattle.litmus_semantics.specs.Layout.{memory_at_first}
use Rattle.setup_access.specs.declared.outcome.Outcome.TheVariants as outcomes
use Rattle.slot_table.specs.declared.records.Record.{Record}
use Rattle.slot_table.specs.declared.step.Answer.TheVariants.{Halves}
use Rattle.slot_table.specs.declared.step.Step.TheVariants.{Name}
use Rattle.value_filter.specs.declared.verdict.Reason.{Reason}
use Rattle.races.specs.Pairs.{AreOf, IsAt}
use Rattle.races.specs.declared.pair.SiteName.{SiteName}
use Rattle.races.specs.declared.pair.SitePair.{SitePair}

-- what an execution of a run may show
abbrev pub Fact : Run → Type 1
Fact run = (records : List Record) → Execution run records → Type 0

-- some execution shows it, of whatever length, with tasks that are stuck or none
abbrev pub SomeShows : (run : Run) → Fact run → Type 0
SomeShows run Shows = (records : List Record) × (list : Execution run records) × Shows records list

-- conflicting accesses at the two sites are in progress at one moment
pub record AreAtOnce (run : Run) (pair : SitePair) (records : List Record) (list : Execution run records) : Type 0 where
  pub first : Access
  pub second : Access
  pub are : AreOf run pair first second
  pub moment : ℕ
  pub first_goes : InProgress (history_of list) first moment
  pub second_goes : InProgress (history_of list) second moment

-- and both count as marked
pub record AreBothMarked (run : Run) (pair : SitePair) (records : List Record) (list : Execution run records) : Type 0 where
  pub at_once : AreAtOnce run pair records list
  pub first_counts : CountedAsMarked run.rules.plain_writes_atomic (history_of list) at_once.first
  pub second_counts : CountedAsMarked run.rules.plain_writes_atomic (history_of list) at_once.second

-- and one of them is silenced
pub record IsOneSilenced (run : Run) (pair : SitePair) (records : List Record) (list : Execution run records) : Type 0 where
  pub at_once : AreAtOnce run pair records list
  pub silenced : Silenced (history_of list) at_once.first ⊎ Silenced (history_of list) at_once.second

-- two accesses at the sites are a true race, whatever masks there are
pub record AreTrueRace (run : Run) (pair : SitePair) (records : List Record) (list : Execution run records) : Type 0 where
  pub first : Access
  pub second : Access
  pub are : AreOf run pair first second
  pub race : TrueRace run.rules.plain_writes_atomic (history_of list) first second

-- An access at the site writes its bytes. While an access is in progress its task does nothing but what the access does;
-- so it is not with a scoped assertion, which does nothing itself.
pub record Writes (run : Run) (at : SiteName) (records : List Record) (list : Execution run records) : Type 0 where
  pub access : Access
  pub is : IsAt run at access
  pub own : ¬ IsTrue (is_scoped access.kind)
  pub place : ℕ
  pub value : ℕ
  pub goes : InProgress (history_of list) access place
  pub writes : slice_get (history_of list) place ≡ Some (record { task = access.task; happening = Write (bytes_of access) value })

-- In a history that begins with this memory, while both are in progress the other access changes, by a write, a bit of the
-- mask in the bytes of the assertion.
pub record ChangesBitsIn (memory : Memory) (history : History) (assertion other : Access) (mask : ℕ) : Type 0 where
  pub own : ¬ IsTrue (is_scoped other.kind)
  pub place : ℕ
  pub value : ℕ
  pub assertion_goes : InProgress history assertion place
  pub other_goes : InProgress history other place
  pub writes : slice_get history place ≡ Some (record { task = other.task; happening = Write (bytes_of other) value })
  pub differ : Differ (Some mask) (content memory history place (bytes_of assertion)) (content memory history (suc place) (bytes_of assertion))

-- so it is in an execution
abbrev pub ChangesBits : {run : Run} {records : List Record} → Execution run records → Access → Access → ℕ → Type 0
ChangesBits {run = run} list assertion other mask =
    ChangesBitsIn (memory_at_first run.places run.program.variables) (history_of list) assertion other mask

-- The accesses at the site write in no execution, as with kcsan_check_write(). Such an access stands for one that may
-- change any bit.
abbrev pub WritesNever : Run → SiteName → Type 0
WritesNever run at = ¬ SomeShows run (Writes run at)

-- Where the access is an assertion with a mask, the other changes a bit of it. ASSERT_EXCLUSIVE_BITS() beside a write of
-- other bits is no race.
abbrev pub BreaksMask : {run : Run} {records : List Record} → Execution run records → Access → SiteName → Access → Option ℕ → Type 0
BreaksMask list assertion at other None = Unit {0}
BreaksMask {run = run} list assertion at other (Some mask) = ChangesBits list assertion other mask ⊎ WritesNever run at

-- two accesses at the sites are a true race, and a mask of either is broken by the other
pub record AreRace (run : Run) (pair : SitePair) (records : List Record) (list : Execution run records) : Type 0 where
  pub true_race : AreTrueRace run pair records list
  pub first_mask : BreaksMask list true_race.first pair.second true_race.second true_race.first.mask
  pub second_mask : BreaksMask list true_race.second pair.first true_race.first true_race.second.mask

-- one of the sites is the setter's, the other the finder's
pub record AreSides (run : Run) (pair : SitePair) (setter finder : Access) : Type 0 where
  pub either : (IsAt run pair.first setter × IsAt run pair.second finder) ⊎ (IsAt run pair.second setter × IsAt run pair.first finder)

-- a report of two sides names accesses at the sites
pub record IsReportedIn (run : Run) (pair : SitePair) (records : List Record) (list : Execution run records) : Type 0 where
  pub setter : Access
  pub finder : Access
  pub sides : AreSides run pair setter finder
  pub seen : Option ValueChange
  pub reported : Contains (reports_of list) (reports.Two (ticket_number setter) (ticket_number finder) seen)

-- a report of unknown origin names an access at one of the sites
pub record IsOriginIn (run : Run) (pair : SitePair) (records : List Record) (list : Execution run records) : Type 0 where
  pub access : Access
  pub at : IsAt run pair.first access ⊎ IsAt run pair.second access
  pub old : ℕ
  pub new : ℕ
  pub reported : Contains (reports_of list) (reports.Unknown (ticket_number access) old new)

-- A watchpoint of the one was taken by the other, and its setter drops that for this reason: at the record that answers it
-- the tickets of both.
pub record IsDroppedIn (run : Run) (pair : SitePair) (reason : Reason) (records : List Record) (list : Execution run records) : Type 0 where
  pub setter : Access
  pub finder : Access
  pub sides : AreSides run pair setter finder
  pub came : OutcomeAt
  pub told : Contains (outcomes_of list) came
  pub dropped : came.outcome ≡ outcomes.Dropped reason
  pub latest : Record
  pub there : slice_get (reverse records) came.at ≡ Some latest
  pub heard : latest.answer ≡ Halves (ticket_number setter) (ticket_number finder)

-- a watchpoint of the one is taken by the other, who tells its setter by whom
pub record IsTakenIn (run : Run) (pair : SitePair) (records : List Record) (list : Execution run records) : Type 0 where
  pub setter : Access
  pub finder : Access
  pub sides : AreSides run pair setter finder
  pub came : OutcomeAt
  pub told : Contains (outcomes_of list) came
  pub taken : came.outcome ≡ outcomes.Told (record { setter = ticket_number setter; finder = ticket_number finder })

-- a watchpoint is armed for an access at one of the sites, which names itself
pub record IsArmedIn (run : Run) (pair : SitePair) (records : List Record) (list : Execution run records) : Type 0 where
  pub access : Access
  pub at : IsAt run pair.first access ⊎ IsAt run pair.second access
  pub index : ℕ
  pub record_of : Record
  pub there : Contains records record_of
  pub task : record_of.task ≡ access.task
  pub names : record_of.step ≡ Name index (ticket_number access)
