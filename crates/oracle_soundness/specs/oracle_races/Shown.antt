-- What executions that are given show of a pair of sites, in place of those of a run. Accesses at a site are those of a
-- history with this task and site, and memory is 0 at first.
use Rattle.std.specs.Prelude.{◌≡◌, ◌<◌, ◌⊎◌, ℕ, Any, Bool, IsTrue, List, None, Option, Some, slice_get}
use Rattle.access_types.specs.Access.{Access, Breaks, Overlap}
use Rattle.access_types.specs.History.{History, InProgress}
use Rattle.access_types.specs.Kind.{is_scoped}
use Rattle.access_types.specs.Marked.{CountedAsMarked, Silenced}
use Rattle.access_types.specs.Race.{TrueRace, bytes_of}
use Rattle.access_types.specs.declared.history.Happening.TheVariants.{Write}
use Rattle.access_types.specs.declared.report.Report.{Report}
use Rattle.access_types.specs.declared.report.Report.TheVariants as reports
use Rattle.oracle_soundness.specs.declared.oracle_races.observed.Observed.{Observed}
use Rattle.oracle_soundness.specs.declared.oracle_races.observed.Taking.{Taking}
use Rattle.races.specs.Reports.{ticket_site}
use Rattle.races.specs.Shown.{ChangesBitsIn}
use Rattle.races.specs.Verdicts.{Facts}
use Rattle.races.specs.declared.pair.SiteName.{SiteName}
use Rattle.races.specs.declared.pair.SitePair.{SitePair}
use Rattle.value_filter.specs.declared.verdict.Reason.{Reason}
use Rattle.value_filter.specs.declared.verdict.Reason.TheVariants.{MaskedBits, SameValue}

-- the ticket names an access at the site
abbrev pub Names : SiteName → ℕ → Type 0
Names at ticket = (0 < ticket) × (ticket_site ticket ≡ at)

-- it names an access at one of the sites
abbrev pub NamesEither : SitePair → ℕ → Type 0
NamesEither pair ticket = Names pair.first ticket ⊎ Names pair.second ticket

-- one side is an access at the one site, the other an access at the other
abbrev pub IsTaking : SitePair → Taking → Type 0
IsTaking pair taking = (Names pair.first taking.setter × Names pair.second taking.finder)
    ⊎ (Names pair.first taking.finder × Names pair.second taking.setter)

-- a report of two sides names the two
abbrev pub IsReported : SitePair → Report → Type 0
IsReported pair (reports.Two setter finder seen) = IsTaking pair (record { setter = setter; finder = finder })
IsReported pair (reports.Unknown setter old new) = ⊥

-- a report of unknown origin names one of them
abbrev pub IsOrigin : SitePair → Report → Type 0
IsOrigin pair (reports.Two setter finder seen) = ⊥
IsOrigin pair (reports.Unknown setter old new) = NamesEither pair setter

-- a taking between the two is dropped for this reason
abbrev pub IsDropped : SitePair → Reason → Taking × Reason → Type 0
IsDropped pair reason dropped = (dropped.1 ≡ reason) × IsTaking pair dropped.0

-- what an execution shows of the two by its reports, its takings and its armings
abbrev pub IsReportedIn : SitePair → Observed → Type 0
IsReportedIn pair told = Any (IsReported pair) told.reports.items

abbrev pub IsOriginIn : SitePair → Observed → Type 0
IsOriginIn pair told = Any (IsOrigin pair) told.reports.items

abbrev pub IsDroppedIn : SitePair → Reason → Observed → Type 0
IsDroppedIn pair reason told = Any (IsDropped pair reason) told.dropped.items

abbrev pub IsTakenIn : SitePair → Observed → Type 0
IsTakenIn pair told = Any (IsTaking pair) told.taken.items

abbrev pub IsArmedIn : SitePair → Observed → Type 0
IsArmedIn pair told = Any (NamesEither pair) told.armed.items

-- an access at the site
pub record IsAt (at : SiteName) (a : Access) : Type 0 where
  pub task : a.task ≡ at.task
  pub site : a.site ≡ at.site

-- the two conflict, and are in progress at one moment
pub record AreAtOnce (history : History) (first second : Access) : Type 0 where
  pub overlap : Overlap first second
  pub breaks : Breaks first second
  pub moment : ℕ
  pub first_goes : InProgress history first moment
  pub second_goes : InProgress history second moment

-- they are at once, and both count as marked
pub record AreBothMarked (plain_writes_atomic : Bool) (history : History) (first second : Access) : Type 0 where
  pub at_once : AreAtOnce history first second
  pub first_counts : CountedAsMarked plain_writes_atomic history first
  pub second_counts : CountedAsMarked plain_writes_atomic history second

-- they are at once, and one of them is silenced
pub record IsOneSilenced (history : History) (first second : Access) : Type 0 where
  pub at_once : AreAtOnce history first second
  pub silenced : Silenced history first ⊎ Silenced history second

-- The access, which is in progress, writes its bytes at this place of the history. A scoped assertion does nothing
-- itself.
pub record WritesAt (history : History) (a : Access) (place : ℕ) : Type 0 where
  pub own : ¬ IsTrue (is_scoped a.kind)
  pub goes : InProgress history a place
  pub value : ℕ
  pub writes : slice_get history place ≡ Some (record { task = a.task; happening = Write (bytes_of a) value })

-- it writes them somewhere
pub record Writes (history : History) (a : Access) : Type 0 where
  pub place : ℕ
  pub at : WritesAt history a place

-- some access at the site is such
pub record SomeAt (at : SiteName) (Such : Access → Type 0) : Type 0 where
  pub access : Access
  pub is : IsAt at access
  pub such : Such access

-- an access at the site writes in the execution; in none of these does one
abbrev pub WritesIn : SiteName → Observed → Type 0
WritesIn at told = SomeAt at (Writes told.history.items)

abbrev pub WritesNever : List Observed → SiteName → Type 0
WritesNever executions at = ¬ Any (WritesIn at) executions

-- Where the access is an assertion with a mask, the other changes a bit of it, or accesses at the other's site never
-- write.
abbrev pub BreaksMask : History → Access → Access → Type 0 → Option ℕ → Type 0
BreaksMask history assertion other Never None = Unit {0}
BreaksMask history assertion other Never (Some mask) = ChangesBitsIn (λ _. 0) history assertion other mask ⊎ Never

-- The two are a true race that breaks the mask of each. Of each site it is said whether accesses there never write.
pub record AreRace (plain_writes_atomic : Bool) (FirstNever SecondNever : Type 0) (history : History) (first second : Access) :
    Type 0 where
  pub race : TrueRace plain_writes_atomic history first second
  pub first_mask : BreaksMask history first second SecondNever first.mask
  pub second_mask : BreaksMask history second first FirstNever second.mask

-- some two accesses at the sites are such, and such are some in the history of one of these executions
abbrev pub HasTwo : SitePair → (Access → Access → Type 0) → Type 0
HasTwo pair AreSuch = SomeAt pair.first (λ first. SomeAt pair.second (AreSuch first))

abbrev pub SomeTwo : List Observed → SitePair → (History → Access → Access → Type 0) → Type 0
SomeTwo executions pair AreSuch = Any (λ told. HasTwo pair (AreSuch told.history.items)) executions

-- what these executions show of a pair of sites
abbrev pub facts_among : Bool → List Observed → SitePair → Facts
facts_among plain_writes_atomic executions pair = record {
  Reported = Any (IsReportedIn pair) executions;
  Race = SomeTwo executions pair
      (AreRace plain_writes_atomic (WritesNever executions pair.first) (WritesNever executions pair.second));
  TrueRace = SomeTwo executions pair (TrueRace plain_writes_atomic);
  AtOnce = SomeTwo executions pair AreAtOnce;
  BothMarked = SomeTwo executions pair (AreBothMarked plain_writes_atomic);
  OneSilenced = SomeTwo executions pair IsOneSilenced;
  SameValue = Any (IsDroppedIn pair SameValue) executions;
  Masked = Any (IsDroppedIn pair MaskedBits) executions;
  Origin = Any (IsOriginIn pair) executions;
  Taken = Any (IsTakenIn pair) executions;
  Armed = Any (IsArmedIn pair) executions;
}
