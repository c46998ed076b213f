-- The verdict on a pair of sites, and the reasons for it.
use Rattle.std.specs.Prelude.{◌↔◌, Bool, IsTrue, if◌then◌else◌}
use Rattle.access_types.specs.Access.{Access}
use Rattle.access_types.specs.Kind.{is_marked}
use Rattle.access_types.specs.Marked.{is_atomic_write}
use Rattle.executions.specs.execution.Run.{Run}
use Rattle.races.specs.Shown.{AreAtOnce, AreBothMarked, AreRace, AreTrueRace, IsArmedIn, IsDroppedIn, IsOneSilenced, IsOriginIn, IsReportedIn, IsTakenIn, SomeShows}
use Rattle.races.specs.declared.pair.SitePair.{SitePair}
use Rattle.races.specs.declared.verdict.HowMarked.{HowMarked}
use Rattle.races.specs.declared.verdict.HowMarked.TheVariants as how
use Rattle.races.specs.declared.verdict.MissedWhy.{MissedWhy}
use Rattle.races.specs.declared.verdict.NoRaceWhy.{NoRaceWhy}
use Rattle.races.specs.declared.verdict.Verdict.{Verdict}
use Rattle.races.specs.declared.verdict.Verdict.TheVariants as verdicts
use Rattle.value_filter.specs.declared.verdict.Reason.TheVariants as dropped

-- What some execution shows of a pair of sites: a report of the two; that they race; a true race, whatever masks there are;
-- accesses at both in progress at one moment, both marked, one silenced; a taking between the two that is dropped since the
-- value is the same, or no bit of the mask changes; a report of unknown origin of one; a taking between the two; a
-- watchpoint that is armed for one. Which executions are meant is said where this is used.
pub record Facts : Type 1 where
  pub Reported : Type 0
  pub Race : Type 0
  pub TrueRace : Type 0
  pub AtOnce : Type 0
  pub BothMarked : Type 0
  pub OneSilenced : Type 0
  pub SameValue : Type 0
  pub Masked : Type 0
  pub Origin : Type 0
  pub Taken : Type 0
  pub Armed : Type 0

abbrev pub IsReported : Run → SitePair → Type 0
IsReported run pair = SomeShows run (IsReportedIn run pair)

abbrev pub IsRace : Run → SitePair → Type 0
IsRace run pair = SomeShows run (AreRace run pair)

abbrev pub IsArmed : Run → SitePair → Type 0
IsArmed run pair = SomeShows run (IsArmedIn run pair)

-- the executions of a run are meant
abbrev pub facts_of : Run → SitePair → Facts
facts_of run pair = record {
  Reported = IsReported run pair;
  Race = IsRace run pair;
  TrueRace = SomeShows run (AreTrueRace run pair);
  AtOnce = SomeShows run (AreAtOnce run pair);
  BothMarked = SomeShows run (AreBothMarked run pair);
  OneSilenced = SomeShows run (IsOneSilenced run pair);
  SameValue = SomeShows run (IsDroppedIn run pair dropped.SameValue);
  Masked = SomeShows run (IsDroppedIn run pair dropped.MaskedBits);
  Origin = SomeShows run (IsOriginIn run pair);
  Taken = SomeShows run (IsTakenIn run pair);
  Armed = IsArmed run pair;
}

-- Why accesses that are at once are no race: some execution shows them both marked, or one silenced; or they are a true
-- race, whose mask no execution breaks.
pub record AreNoRaceReasons (facts : Facts) (why : NoRaceWhy) : Type 0 where
  pub both_marked : IsTrue why.both_marked ↔ facts.BothMarked
  pub silenced : IsTrue why.silenced ↔ facts.OneSilenced
  pub other_bits : IsTrue why.other_bits ↔ facts.TrueRace

-- one of the first three reasons for a missed race
pub data HasReason (facts : Facts) : Type 0 where
  same_value : facts.SameValue → HasReason facts
  masked : facts.Masked → HasReason facts
  origin : facts.Origin → HasReason facts

-- Why a race is missed: a taking between the two was dropped, since the value was the same or no bit of the mask
-- changed; a report of unknown origin names one of them. Where none of these is, no execution has a taking between the
-- two, or none even arms a watchpoint for either.
pub record AreMissedReasons (facts : Facts) (why : MissedWhy) : Type 0 where
  pub same_value : IsTrue why.same_value ↔ facts.SameValue
  pub masked : IsTrue why.masked ↔ facts.Masked
  pub origin : IsTrue why.origin ↔ facts.Origin
  pub never_taken : IsTrue why.never_taken ↔ ((¬ HasReason facts) × (¬ facts.Taken) × facts.Armed)
  pub never_armed : IsTrue why.never_armed ↔ ((¬ HasReason facts) × (¬ facts.Armed))

-- the reasons that were seen before a search was stopped
pub record AreReasonsSoFar (facts : Facts) (why : MissedWhy) : Type 0 where
  pub same_value : IsTrue why.same_value → facts.SameValue
  pub masked : IsTrue why.masked → facts.Masked
  pub origin : IsTrue why.origin → facts.Origin
  pub never_taken : ¬ IsTrue why.never_taken
  pub never_armed : ¬ IsTrue why.never_armed

-- The verdict on a pair that conflicts, the first that fits: it is reported; it is a race that no execution reports; it
-- is no race, but conflicting accesses are at once; they never are. A report names a true race, but where one side is an
-- assertion with a mask a third task may have changed the bit; so a reported pair needn't be a race by its mask. Where a
-- search was stopped a race may be reported or missed, and what is not settled may be anything.
abbrev pub FitsFacts : Facts → Verdict → Type 0
FitsFacts facts verdicts.Reported = facts.Reported
FitsFacts facts (verdicts.Missed why) = (¬ facts.Reported) × facts.Race × AreMissedReasons facts why
FitsFacts facts (verdicts.Race why) = facts.Race × AreReasonsSoFar facts why
FitsFacts facts (verdicts.NoRace why) =
    (¬ facts.Reported) × (¬ facts.Race) × facts.AtOnce × AreNoRaceReasons facts why
FitsFacts facts verdicts.Apart = (¬ facts.Reported) × (¬ facts.Race) × (¬ facts.AtOnce)
FitsFacts facts verdicts.NotSettled = Unit {0}

-- so it is by the executions of a run
abbrev pub Fits : Run → SitePair → Verdict → Type 0
Fits run pair verdict = FitsFacts (facts_of run pair) verdict

-- the verdict is of a search that was not stopped
abbrev pub IsSettled : Verdict → Type 0
IsSettled (verdicts.Race why) = ⊥
IsSettled verdicts.NotSettled = ⊥
IsSettled verdict = Unit {0}

-- How an access counts as marked that does: by its form, as a plain write that the machine makes in one piece, or by a
-- region or a call of kcsan_atomic_next(). A marked form in a region counts by its form.
abbrev pub how_marked : Bool → Access → HowMarked
how_marked plain_writes_atomic a =
    if is_marked a.kind then how.Form else if is_atomic_write plain_writes_atomic a then how.AlignedWrite else how.RegionOrNext
