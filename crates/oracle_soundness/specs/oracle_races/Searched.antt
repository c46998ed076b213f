-- What is looked for at one moment, what may hold of two accesses, and what may happen at two sites.
use Rattle.std.specs.Prelude.{◌≡◌, ℕ, IsTrue, Some, suc}
use Rattle.access_types.specs.Access.{Access}
use Rattle.access_types.specs.History.{History, InProgress, content}
use Rattle.access_types.specs.Race.{Differ, TrueRace, bytes_of}
use Rattle.access_types.specs.declared.history.Happening.TheVariants.{Write}
use Rattle.access_types.specs.declared.history.Moment.{Moment}
use Rattle.oracle_soundness.specs.declared.oracle_races.observed.Observed.{Observed}
use Rattle.oracle_soundness.specs.declared.oracle_races.events.Event.{Event}
use Rattle.oracle_soundness.specs.declared.oracle_races.events.Event.TheVariants as events
use Rattle.oracle_soundness.specs.declared.oracle_races.facts.Fact.{Fact}
use Rattle.oracle_soundness.specs.declared.oracle_races.facts.Fact.TheVariants as shown
use Rattle.oracle_soundness.specs.oracle_races.Shown.{AreAtOnce, AreBothMarked, AreRace, IsArmedIn, IsDroppedIn, IsOneSilenced, IsOriginIn}
use Rattle.oracle_soundness.specs.oracle_races.Shown.{IsReportedIn, IsTakenIn, WritesAt, WritesIn}
use Rattle.races.specs.declared.pair.SitePair.{SitePair}

-- the moment is a write of the access's bytes by its task
abbrev pub IsWriteOf : Access → Moment → Type 0
IsWriteOf a moment = (value : ℕ) × (moment ≡ record { task = a.task; happening = Write (bytes_of a) value })

-- the other access changes a bit of the mask at this place of the history
pub record ChangesBitsAt (history : History) (assertion other : Access) (mask place : ℕ) : Type 0 where
  pub writes : WritesAt history other place
  pub assertion_goes : InProgress history assertion place
  pub differ : Differ (Some mask) (content (λ _. 0) history place (bytes_of assertion))
      (content (λ _. 0) history (suc place) (bytes_of assertion))

-- the fact holds of two accesses
abbrev pub Holds : Fact → History → Access → Access → Type 0
Holds shown.AtOnce = AreAtOnce
Holds (shown.BothMarked atomic) = AreBothMarked atomic
Holds shown.OneSilenced = IsOneSilenced
Holds (shown.TrueRace atomic) = TrueRace atomic
Holds (shown.Race atomic first_never second_never) = AreRace atomic (IsTrue first_never) (IsTrue second_never)

-- the event happens in the execution
abbrev pub Happens : SitePair → Event → Observed → Type 0
Happens pair events.Reported = IsReportedIn pair
Happens pair events.Origin = IsOriginIn pair
Happens pair (events.Dropped reason) = IsDroppedIn pair reason
Happens pair events.Taken = IsTakenIn pair
Happens pair events.Armed = IsArmedIn pair
Happens pair (events.Writes at) = WritesIn at
