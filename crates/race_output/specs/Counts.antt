-- The lines on what was searched and on how many pairs have which verdict.
use Rattle.std.specs.Prelude.{◌==◌, ℕ, List, [], ◌∷◌, codes, if◌then◌else◌, length}
use Rattle.std.specs.Fmt.{decimal}
use Rattle.std.specs.List.{concat}
use Rattle.race_output.specs.Words.{count_said}
use Rattle.race_output.specs.declared.words.Said.TheVariants.{Apart, Missed, NoRace, NotSettled, Race, Reported}
use Rattle.race_verdicts.specs.declared.find.RacesFound.{RacesFound}
use Rattle.races.specs.declared.verdict.PairFound.{PairFound}
use Rattle.search_text.specs.declared.stopped.Stopped.{Stopped}
use Rattle.search_text.specs.declared.stopped.Stopped.TheVariants.{AfterSeconds, AtLimit, No}

-- the line that says after how much a walk was stopped
abbrev pub stopped_after : (count : ℕ) → (unit walk : List ℕ) → List ℕ
stopped_after count unit walk = concat (codes "stopped after " ∷ decimal count ∷ unit ∷ walk ∷ codes ": others remain\n" ∷ [])

-- the line that says that a walk was stopped, where it was
unfoldable pub stopped_line : Stopped → (states : ℕ) → (walk : List ℕ) → List ℕ
stopped_line No states walk = []
stopped_line AtLimit states walk = stopped_after states (codes " states ") walk
stopped_line (AfterSeconds seconds) states walk = stopped_after seconds (codes " seconds ") walk

-- a count, and what is counted
unfoldable pub counted : (count : ℕ) → (words : List ℕ) → List ℕ
counted count words = concat (decimal count ∷ words ∷ [])

-- the line on how much was searched
unfoldable pub searched_line : RacesFound → List ℕ
searched_line found = concat
    (codes "searched " ∷ counted found.unwatched_states (codes " states without watchpoints, ")
    ∷ counted found.schedules (codes " schedules, and ") ∷ counted found.states (codes " states with watchpoints\n") ∷ [])

-- the lines on what was searched
unfoldable pub search_lines : RacesFound → List ℕ
search_lines found = concat
    (stopped_line found.unwatched_stopped found.unwatched_states (codes "without watchpoints")
    ∷ stopped_line found.stopped found.states (codes "with watchpoints") ∷ searched_line found ∷ [])

-- a count, where there are some
unfoldable pub count_if_some : ℕ → (words : List ℕ) → List ℕ
count_if_some count words = if count == 0 then [] else concat (codes ", " ∷ counted count words ∷ [])

-- how many pairs have verdicts that each search may come to
unfoldable pub settled_counts : List PairFound → List ℕ
settled_counts pairs = concat
    (counted (length pairs) (codes " pairs conflict: ") ∷ counted (count_said pairs Reported) (codes " reported, ")
    ∷ counted (count_said pairs Missed) (codes " missed, ") ∷ counted (count_said pairs NoRace) (codes " no race, ")
    ∷ counted (count_said pairs Apart) (codes " apart") ∷ [])

-- the line on how many pairs have which verdict
unfoldable pub pairs_line : List PairFound → List ℕ
pairs_line pairs = concat
    (settled_counts pairs ∷ count_if_some (count_said pairs Race) (codes " race")
    ∷ count_if_some (count_said pairs NotSettled) (codes " not settled") ∷ codes "\n" ∷ [])
