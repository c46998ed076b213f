-- What is written before all files, and behind them.
use Rattle.std.specs.Prelude.{◌+◌, ◌-◌, ◌==◌, ◌^◌, ℕ, List, [], ◌∷◌, codes, if◌then◌else◌, min}
use Rattle.std.specs.Fmt.{decimal}
use Rattle.std.specs.List.{concat}
use Rattle.output_pieces.specs.declared.file_counts.FileCounts.{FileCounts}
use Rattle.search_formats.specs.declared.wanted.Format.{Format}
use Rattle.search_formats.specs.declared.wanted.Format.TheVariants.{Csv, Herd, Json, Part, Text}

-- what stands before all files: in CSV the names of the columns
abbrev pub heading : Format → List ℕ
heading Text = []
heading Json = []
heading Csv = codes "file,status,reports,pairs,states,stuck,positive,negative,error\n"
heading Herd = []
heading (Part part parts) = []

-- a count, and what is counted
unfoldable pub counted : (count : ℕ) → (words : List ℕ) → List ℕ
counted count words = concat (decimal count ∷ words ∷ [])

-- how many files there are; the number rests at its last value
abbrev pub files_in : FileCounts → ℕ
files_in counts = min (counts.free + counts.reported + counts.missed + counts.refused + counts.stopped) (2 ^ 64 - 1)

-- how many files were stopped without a report, where some were
unfoldable pub stopped_text : ℕ → List ℕ
stopped_text stopped = if stopped == 0 then [] else concat (codes ", " ∷ counted stopped (codes " stopped") ∷ [])

-- how many files came to which end, but for those that were stopped
unfoldable pub ended_counts : FileCounts → List ℕ
ended_counts counts = concat
    (counted counts.free (codes " clean, ") ∷ counted counts.reported (codes " with reports, ")
    ∷ counted counts.refused (codes " refused") ∷ [])

-- the line behind all files, as text
unfoldable pub last_line : FileCounts → List ℕ
last_line counts = concat
    (counted (files_in counts) (codes " files: ") ∷ ended_counts counts ∷ stopped_text counts.stopped ∷ codes "\n" ∷ [])
