-- How many pairs of a file, and how many files, have which verdict; and how much was searched.
use Rattle.std.specs.Prelude.{◌==◌, ℕ, Bool, List, [], ◌∷◌, codes, count_by, false, if◌then◌else◌, true}
use Rattle.std.specs.Fmt.{decimal}
use Rattle.std.specs.List.{concat}
use Rattle.output_pieces.specs.declared.file_counts.FileCounts.{FileCounts}
use Rattle.race_output.specs.Words.{said_of}
use Rattle.race_output.specs.declared.words.FileVerdict.{FileVerdict}
use Rattle.race_output.specs.declared.words.FileVerdict.TheVariants as files
use Rattle.race_output.specs.declared.words.Said.{Said}
use Rattle.race_output.specs.declared.words.Said.TheVariants.{Apart, Missed, NoRace, NotSettled, Race, Reported}
use Rattle.race_page.specs.Verdicts.{severity}
use Rattle.race_page.specs.declared.values.FileEnd.{FileEnd}
use Rattle.race_page.specs.declared.values.FileEnd.TheVariants as ends
use Rattle.race_page.specs.declared.values.FileTold.{FileTold}
use Rattle.race_page.specs.declared.values.PairTold.{PairTold}
use Rattle.race_page.specs.declared.values.RacesTold.{RacesTold}
use Rattle.search_text.specs.Stops.{is_stopped}

-- how many pairs have such a verdict
abbrev pub count_told : Said → List PairTold → ℕ
count_told wanted pairs = count_by (λ (one : PairTold). severity (said_of one.verdict) == severity wanted) pairs

-- the same as a cell of a table
unfoldable pub count_cell : List PairTold → Said → List ℕ
count_cell pairs wanted = concat (codes "<td>" ∷ decimal (count_told wanted pairs) ∷ codes "</td>" ∷ [])

-- how many pairs have each verdict
unfoldable pub count_cells : List PairTold → List ℕ
count_cells pairs = concat
    (count_cell pairs Reported ∷ count_cell pairs Missed ∷ count_cell pairs Race ∷ count_cell pairs NoRace
    ∷ count_cell pairs Apart ∷ count_cell pairs NotSettled ∷ [])

-- the two verdicts are the same
abbrev pub are_same : FileVerdict → FileVerdict → Bool
are_same files.Free files.Free = true
are_same files.Reported files.Reported = true
are_same files.Missed files.Missed = true
are_same files.Stopped files.Stopped = true
are_same one other = false

-- a file ended with such a verdict, or was refused
abbrev pub ends_with : FileVerdict → FileEnd → Bool
ends_with wanted (ends.Found races) = are_same wanted races.verdict
ends_with wanted (ends.Refused why) = false

abbrev pub ends_refused : FileEnd → Bool
ends_refused (ends.Found races) = false
ends_refused (ends.Refused why) = true

abbrev pub has_verdict : FileVerdict → FileTold → Bool
has_verdict wanted file = ends_with wanted file.end

abbrev pub is_refused : FileTold → Bool
is_refused file = ends_refused file.end

-- how many files have such a verdict
abbrev pub count_files : List FileTold → FileVerdict → ℕ
count_files told wanted = count_by (λ (file : FileTold). has_verdict wanted file) told

-- how many were refused
abbrev pub count_refused : List FileTold → ℕ
count_refused told = count_by (λ (file : FileTold). is_refused file) told

-- how many have each
abbrev pub file_counts : List FileTold → FileCounts
file_counts told = record {
  free = count_files told files.Free;
  reported = count_files told files.Reported;
  missed = count_files told files.Missed;
  refused = count_refused told;
  stopped = count_files told files.Stopped;
}

-- that a walk was stopped, if it was
abbrev pub stopped_words : Bool → List ℕ
stopped_words stopped = if stopped then codes " (stopped there: others remain)" else []

-- how much was searched
unfoldable pub searched_text : RacesTold → List ℕ
searched_text races = concat
    (codes "<p class=\"small\">searched " ∷ decimal races.unwatched_states ∷ codes " states without watchpoints"
    ∷ stopped_words (is_stopped races.unwatched_stopped) ∷ codes ", " ∷ decimal races.schedules
    ∷ codes " schedules, and " ∷ decimal races.states ∷ codes " states with watchpoints" ∷ stopped_words (is_stopped races.stopped)
    ∷ codes "</p>\n" ∷ [])
