-- The verdict on a pair by what was found of it.
use Rattle.std.specs.Prelude.{IsTrue}
use Rattle.executions.specs.execution.Run.{Run}
use Rattle.races.specs.Found.{IsUnwatchedOf, IsWatchedOf}
use Rattle.races.specs.Shown.{AreTrueRace, SomeShows}
use Rattle.races.specs.Verdicts.{Fits, IsRace, IsReported}
use Rattle.races.specs.declared.found.Unwatched.{Unwatched}
use Rattle.races.specs.declared.found.Watched.{Watched}
use Rattle.races.specs.declared.pair.SitePair.{SitePair}
use Rattle.races.specs.declared.verdict.Verdict.TheVariants as verdicts

module _ (run : Run) (pair : SitePair) (unwatched : Unwatched) (watched : Watched) (found : IsUnwatchedOf run pair unwatched)
    (seen : IsWatchedOf run pair watched) (races : IsReported run pair → SomeShows run (AreTrueRace run pair)) where
  -- a race is a true race
  true_race : IsRace run pair → SomeShows run (AreTrueRace run pair)
  true_race shows = (shows.0, shows.1, shows.2.true_race)

  pub fits_missed : ¬ IsTrue watched.reported → IsTrue unwatched.race → IsTrue watched.settled → Fits run pair (verdicts.Missed watched.why)
  fits_missed unreported is settled = (
    λ reported. unreported (seen.complete settled reported),
    found.race is,
    seen.why settled unreported (true_race (found.race is)),
  )

  pub fits_race : IsTrue unwatched.race → ¬ IsTrue watched.settled → Fits run pair (verdicts.Race watched.why)
  fits_race is unsettled = (found.race is, seen.so_far unsettled)

  -- it is no race, and of a true race it is known whether it is reported
  module _ (unreported : ¬ IsTrue watched.reported) (none : ¬ IsTrue unwatched.race) (settled : IsTrue unwatched.settled)
      (known : IsTrue unwatched.shown.true_race → IsTrue watched.settled) where
    not_reported : ¬ IsReported run pair
    not_reported reported =
        unreported (seen.complete (known ((found.complete settled).true_race (races reported))) reported)

    no_race : ¬ IsRace run pair
    no_race shows = none (found.all_races settled shows)

    pub fits_no_race : IsTrue unwatched.shown.at_once → Fits run pair (verdicts.NoRace (record {
      both_marked = unwatched.shown.both_marked;
      silenced = unwatched.shown.silenced;
      other_bits = unwatched.shown.true_race;
    }))
    fits_no_race at_once = (
      not_reported,
      no_race,
      found.sound.at_once at_once,
      record {
        both_marked = (found.sound.both_marked, (found.complete settled).both_marked);
        silenced = (found.sound.silenced, (found.complete settled).silenced);
        other_bits = (found.sound.true_race, (found.complete settled).true_race);
      },
    )

    pub fits_apart : ¬ IsTrue unwatched.shown.at_once → Fits run pair verdicts.Apart
    fits_apart never = (not_reported, no_race, λ shows. never ((found.complete settled).at_once shows))
