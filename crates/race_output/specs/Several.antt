-- What is written behind several files.
use Rattle.std.specs.Prelude.{ℕ, List, [], ◌∷◌, codes}
use Rattle.std.specs.List.{concat}
use Rattle.race_output.specs.Counts.{counted}
use Rattle.output_pieces.specs.declared.file_counts.FileCounts.{FileCounts}

-- how many files have which verdict
unfoldable pub searched_counts : FileCounts → List ℕ
searched_counts counts = concat
    (counted counts.free (codes " free of races, ") ∷ counted counts.reported (codes " with races reported, ")
    ∷ counted counts.missed (codes " with races missed, ") ∷ [])

-- the line behind several files
unfoldable pub last_line : FileCounts → List ℕ
last_line counts = concat
    (codes "files: " ∷ searched_counts counts ∷ counted counts.refused (codes " refused, ")
    ∷ counted counts.stopped (codes " stopped\n") ∷ [])
