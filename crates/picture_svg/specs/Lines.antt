-- Rows and lines of text of a picture.
use Rattle.std.specs.Prelude.{◌-◌, ◌*◌, ◌^◌, ◌∷◌, ℕ, List, [], codes, min}
use Rattle.std.specs.Fmt.{decimal}
use Rattle.std.specs.List.{concat}

-- where the row at this place among the rows begins: each is two em high
abbrev pub row_top : ℕ → ℕ
row_top place = min (place * 2) (2 ^ 64 - 1)

-- the beginning of a line of text, right of what stands in the lane at x, and so far below the top of a row
abbrev pub line_start : (x top : ℕ) → (below : List ℕ) → List ℕ
line_start x top below = concat (codes "<text x=\"" ∷ decimal x ∷ codes ".3em\" dx=\"1em\" y=\"" ∷ decimal top
    ∷ codes "em\" dy=\"" ∷ below ∷ codes "em\"><tspan>" ∷ [])

-- the end of a line of text
abbrev pub line_end : List ℕ
line_end = codes "</tspan></text>"
