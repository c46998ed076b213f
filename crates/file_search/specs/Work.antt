-- What is done with a litmus file, what is found of its text, and what is written of that.
use Rattle.std.specs.Prelude.{◌≡◌, ◌∷◌, ◌==◌, ℕ, Bool, List, [], codes, false, if◌then◌else◌, max, nat_lt, true}
use Rattle.std.specs.List.{concat}
use Rattle.file_search.specs.Additions.{HasAdditions}
use Rattle.file_search.specs.declared.work.SearchWork.{SearchWork}
use Rattle.file_search.specs.declared.work.Work.{Work}
use Rattle.file_search.specs.declared.work.Work.TheVariants as works
use Rattle.output_pieces.specs.declared.file_counts.FileCounts.{FileCounts}
use Rattle.prepared_program.specs.declared.program_sites.settings.Settings.{Settings}
use Rattle.program_table.specs.text_pieces.Shown.{shown}
use Rattle.race_output.specs.Results.{AreRacesOfText, IsFree}
use Rattle.race_output.specs.Several as races_line
use Rattle.race_output.specs.declared.file.Format.{Format}
use Rattle.race_output.specs.declared.file.Format.TheVariants as races_formats
use Rattle.race_output.specs.declared.words.FileVerdict.{FileVerdict}
use Rattle.race_output.specs.declared.words.FileVerdict.TheVariants as verdicts
use Rattle.search_formats.specs.Files.{IsFileSearched}
use Rattle.search_formats.specs.Refusals as unsearched
use Rattle.search_formats.specs.Several as searched_line
use Rattle.search_formats.specs.declared.refusal.Refusal.{Refusal}
use Rattle.search_formats.specs.declared.wanted.Format as search_format
use Rattle.search_formats.specs.declared.wanted.Format.TheVariants as search_formats

abbrev pub is_races_text : Format → Bool
is_races_text races_formats.Text = true
is_races_text races_formats.Json = false

abbrev pub is_search_text : search_format.Format → Bool
is_search_text search_formats.Text = true
is_search_text search_formats.Json = false
is_search_text search_formats.Csv = false
is_search_text search_formats.Herd = false
is_search_text (search_formats.Part part parts) = false

-- text is written of each file
abbrev pub is_text : Work → Bool
is_text (works.Races work) = is_races_text work.format
is_text (works.Search work) = is_search_text work.wanted.format

-- something is printed of each file for programs that read it, also of one that isn't looked into
abbrev pub has_search_rows : search_format.Format → Bool
has_search_rows search_formats.Text = false
has_search_rows search_formats.Json = true
has_search_rows search_formats.Csv = true
has_search_rows search_formats.Herd = false
has_search_rows (search_formats.Part part parts) = false

abbrev pub has_rows : Work → Bool
has_rows (works.Races work) = false
has_rows (works.Search work) = has_search_rows work.wanted.format

-- the verdict of a search: with a report, with none so far where it was stopped, and with none at all
abbrev pub search_verdict_of : (raced stopped : Bool) → FileVerdict
search_verdict_of true stopped = verdicts.Reported
search_verdict_of false true = verdicts.Stopped
search_verdict_of false false = verdicts.Free

-- What is written of the program of the text that a file gave, which was searched, with what is wanted beside it.
pub record IsSearchFound (work : SearchWork) (settings : Settings) (name text output : List ℕ) (raced stopped : Bool) : Type 0 where
  pub plain : List ℕ
  pub searched : IsFileSearched name text settings work.wanted raced stopped plain
  pub added : HasAdditions work.additions name text settings plain output

-- what is written of the text that a file gave, with this verdict, is so of it
abbrev pub IsFoundIn : Work → Settings → (name text output : List ℕ) → FileVerdict → Type 0
IsFoundIn (works.Races work) settings name text output verdict =
    AreRacesOfText text settings work.format name output verdict × (verdict ≡ verdicts.Free → IsFree text settings)
IsFoundIn (works.Search work) settings name text output verdict =
    (raced stopped : Bool) × IsSearchFound work settings name text output raced stopped × (verdict ≡ search_verdict_of raced stopped)

-- no execution of the program of the text has a race; of a search, none that it explores has a report
abbrev pub IsClearText : Work → Settings → (name text output : List ℕ) → Type 0
IsClearText (works.Races work) settings name text output = IsFree text settings
IsClearText (works.Search work) settings name text output = IsSearchFound work settings name text output false false

-- A search that was stopped is the least of what may come of several, and a file that is refused comes before a report.
abbrev pub rank : ℕ → ℕ
rank status = if status == 75 then 1 else status

-- of two statuses that which counts: the greater, and of searches that of the higher rank
abbrev pub worse : Work → (status other : ℕ) → ℕ
worse (works.Races work) status other = max status other
worse (works.Search work) status other = if nat_lt (rank status) (rank other) then other else status

-- what is written of a file under its name
unfoldable pub under_races_name : (name output : List ℕ) → List ℕ
under_races_name name output = concat (shown name ∷ codes ":\n\n" ∷ output ∷ codes "\n" ∷ [])

unfoldable pub under_search_name : (name output : List ℕ) → List ℕ
under_search_name name output = concat (codes "== " ∷ shown name ∷ codes "\n" ∷ output ∷ [])

abbrev pub under_name : Work → (name output : List ℕ) → List ℕ
under_name (works.Races work) name output = under_races_name name output
under_name (works.Search work) name output = under_search_name name output

-- what is printed of a file that isn't looked into
abbrev pub unsearched_text : Work → (name : List ℕ) → (status : ℕ) → Refusal → List ℕ
unsearched_text (works.Races work) name status why = []
unsearched_text (works.Search work) name status why = unsearched.refused_text name work.wanted.format status why

-- what is written in front of all files
abbrev pub heading_of : Work → List ℕ
heading_of (works.Races work) = []
heading_of (works.Search work) = searched_line.heading work.wanted.format

-- the line that counts files
abbrev pub last_line_of : Work → FileCounts → List ℕ
last_line_of (works.Races work) counts = races_line.last_line counts
last_line_of (works.Search work) counts = searched_line.last_line counts
