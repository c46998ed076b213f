-- What is found of a file, as a row of CSV.
use Rattle.std.specs.Prelude.{◌==◌, ℕ, Bool, List, [], ◌∷◌, Option, None, Some, if◌then◌else◌, length, not}
use Rattle.std.specs.Fmt.{decimal}
use Rattle.access_types.specs.Sites.{AccessMap}
use Rattle.csv.specs.Writing.{default_writer, row_text}
use Rattle.search_json.specs.Extents.{is_counted, status_of}
use Rattle.search_formats.specs.Pairs.{pairs_of}
use Rattle.search_json.specs.declared.extent.Extent.{Extent}
use Rattle.search_formats.specs.declared.rows.RowCounts.{RowCounts}
use Rattle.search_text.specs.Times.{Times}
use Rattle.search_text.specs.declared.found.SearchFindings.{SearchFindings}

-- the row of a file with these numbers: its name, the numbers, and no error
unfoldable pub row : (name : List ℕ) → RowCounts → List ℕ
row name counts = row_text default_writer
    (name ∷ decimal counts.status ∷ decimal counts.reports ∷ decimal counts.pairs ∷ decimal counts.states ∷ decimal counts.stuck
    ∷ decimal counts.positive ∷ decimal counts.negative ∷ [] ∷ [])

-- after how many schedules not all tasks have ended; 1 where there are some and their number isn't known
abbrev pub stuck_count : Option Times → (counted : Bool) → ℕ
stuck_count None counted = 0
stuck_count (Some times) counted = if counted then times.0 else 1

-- What is found of a file of this name: its status, the distinct texts of reports and the pairs of sites that they tell
-- of, and how schedules end.
unfoldable pub csv_text : (name : List ℕ) → AccessMap → (reported ended : SearchFindings) → Extent → List ℕ
csv_text name sites reported ended extent = row name (record {
  status = status_of (not (length reported.reports == 0)) extent.stopped;
  reports = length reported.reports;
  pairs = length (pairs_of sites reported.known.items);
  states = length ended.states;
  stuck = stuck_count ended.stuck (is_counted extent);
  positive = ended.held;
  negative = ended.failed;
})

-- the row of a file that isn't searched: its name, its status, nothing for the numbers, and the error
unfoldable pub refused_row : (name : List ℕ) → (status : ℕ) → (why : List ℕ) → List ℕ
refused_row name status why = row_text default_writer
    (name ∷ decimal status ∷ [] ∷ [] ∷ [] ∷ [] ∷ [] ∷ [] ∷ why ∷ [])
