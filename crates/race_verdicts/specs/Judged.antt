-- The verdicts on all pairs.
use Rattle.std.specs.Prelude.{◌≡◌, ◌↔◌, ◌⊎◌, AllPairs, Contains, IfSome, map}
use Rattle.executions.specs.execution.Run.{Run}
use Rattle.race_search.specs.declared.facts.Fact as facts
use Rattle.race_search.specs.declared.facts.Facts.{Facts}
use Rattle.race_verdicts.specs.declared.find.RacesFound.{RacesFound}
use Rattle.race_schedules.specs.ShowsBy.{ShowsBy}
use Rattle.races.specs.Pairs.{Conflicts}
use Rattle.races.specs.Placed.{ComesBefore}
use Rattle.races.specs.Shown.{AreAtOnce, AreTrueRace, Fact, IsReportedIn}
use Rattle.races.specs.Verdicts.{Fits, IsSettled}
use Rattle.races.specs.declared.pair.SitePair.{SitePair}
use Rattle.races.specs.declared.verdict.PairFound.{PairFound}
use Rattle.races.specs.declared.verdict.Verdict.{Verdict}
use Rattle.races.specs.declared.verdict.Verdict.TheVariants as verdicts
use Rattle.search_text.specs.declared.stopped.Stopped.TheVariants.{No}

-- one of the two facts was found
abbrev pub IsEither : Facts → facts.Fact → facts.Fact → Type 0
IsEither all one other = Contains all.found.keys one ⊎ Contains all.found.keys other

-- what an execution under the schedule of a verdict shows
abbrev pub shown_by : (run : Run) → SitePair → Verdict → Fact run
shown_by run pair verdicts.Reported = IsReportedIn run pair
shown_by run pair (verdicts.Missed why) = AreTrueRace run pair
shown_by run pair (verdicts.Race why) = AreTrueRace run pair
shown_by run pair (verdicts.NoRace why) = AreAtOnce run pair
shown_by run pair verdicts.Apart = λ records list. ⊥
shown_by run pair verdicts.NotSettled = λ records list. ⊥

-- what is said of a pair is so
pub record IsFoundOf (run : Run) (found : PairFound) : Type 0 where
  pub fits : Fits run found.pair found.verdict
  pub schedule : IfSome found.schedule (λ entries. ShowsBy run (shown_by run found.pair found.verdict) entries.items)

-- Just the pairs that conflict were found, in order, each with what is so of it. Where neither walk was stopped each has
-- its verdict.
pub record AreRacesOf (run : Run) (found : RacesFound) : Type 0 where
  pub pairs : (pair : SitePair) → Conflicts run pair ↔ Contains (map (λ (one : PairFound). one.pair) found.pairs.items) pair
  pub order : AllPairs ComesBefore (map (λ (one : PairFound). one.pair) found.pairs.items)
  pub each : (one : PairFound) → Contains found.pairs.items one → IsFoundOf run one
  pub settled : found.unwatched_stopped ≡ No → found.stopped ≡ No
      → (one : PairFound) → Contains found.pairs.items one → IsSettled one.verdict
