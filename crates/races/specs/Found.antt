-- What was found of one pair of sites, where nothing is watched and where accesses are.
use Rattle.std.specs.Prelude.{IsTrue}
use Rattle.executions.specs.execution.Run.{Run}
use Rattle.races.specs.Shown.{AreAtOnce, AreBothMarked, AreTrueRace, IsOneSilenced, SomeShows}
use Rattle.races.specs.Verdicts.{AreMissedReasons, AreReasonsSoFar, IsRace, IsReported, facts_of}
use Rattle.races.specs.declared.found.PairShown.{PairShown}
use Rattle.races.specs.declared.found.Unwatched.{Unwatched}
use Rattle.races.specs.declared.found.Watched.{Watched}
use Rattle.races.specs.declared.pair.SitePair.{SitePair}

-- what was found is shown by executions
pub record AreShown (run : Run) (pair : SitePair) (shown : PairShown) : Type 0 where
  pub at_once : IsTrue shown.at_once → SomeShows run (AreAtOnce run pair)
  pub both_marked : IsTrue shown.both_marked → SomeShows run (AreBothMarked run pair)
  pub silenced : IsTrue shown.silenced → SomeShows run (IsOneSilenced run pair)
  pub true_race : IsTrue shown.true_race → SomeShows run (AreTrueRace run pair)

-- and what executions show was found
pub record AreAllShown (run : Run) (pair : SitePair) (shown : PairShown) : Type 0 where
  pub at_once : SomeShows run (AreAtOnce run pair) → IsTrue shown.at_once
  pub both_marked : SomeShows run (AreBothMarked run pair) → IsTrue shown.both_marked
  pub silenced : SomeShows run (IsOneSilenced run pair) → IsTrue shown.silenced
  pub true_race : SomeShows run (AreTrueRace run pair) → IsTrue shown.true_race

-- What was found of a pair is so. Where all states were visited nothing else is.
pub record IsUnwatchedOf (run : Run) (pair : SitePair) (found : Unwatched) : Type 0 where
  pub sound : AreShown run pair found.shown
  pub complete : IsTrue found.settled → AreAllShown run pair found.shown
  pub race : IsTrue found.race → IsRace run pair
  pub all_races : IsTrue found.settled → IsRace run pair → IsTrue found.race

-- What was found of a pair is so: whether it is reported, and why not. The reasons are those of a true race: of another
-- pair, which isn't reported either, none are asked for.
pub record IsWatchedOf (run : Run) (pair : SitePair) (found : Watched) : Type 0 where
  pub sound : IsTrue found.reported → IsReported run pair
  pub complete : IsTrue found.settled → IsReported run pair → IsTrue found.reported
  pub why : IsTrue found.settled → ¬ IsTrue found.reported → SomeShows run (AreTrueRace run pair)
      → AreMissedReasons (facts_of run pair) found.why
  pub so_far : ¬ IsTrue found.settled → AreReasonsSoFar (facts_of run pair) found.why
