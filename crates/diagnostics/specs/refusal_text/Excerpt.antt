-- The line of a place, cut round it where it is long, with a mark under the place.
use Rattle.std.specs.Prelude.{◌==◌, ◌&&◌, ◌-◌, ◌+◌, ℕ, List, [], ◌∷◌, ◌++◌, codes, drop, if◌then◌else◌, length, replicate, slice_range, take}
use Rattle.std.specs.Fmt.{decimal}
use Rattle.std.specs.List.{before_first, concat}
use Rattle.litmus_lex.specs.Lines.{column_at, line_at}
use Rattle.program_table.specs.text_pieces.Shown.{shown}

-- the bytes of a place's line that stand before it
abbrev pub before_of : List ℕ → ℕ → List ℕ
before_of text at = slice_range text (at - (column_at text at - 1)) at

-- the bytes of a place's line from there on
abbrev pub after_of : List ℕ → ℕ → List ℕ
after_of text at = before_first (λ byte. byte == 10) (drop at text)

-- what is shown of the bytes before a place: the last 60
abbrev pub near_before : List ℕ → List ℕ
near_before before = drop (length before - 60) before

-- what is shown of the bytes from a place on, behind so many: up to 80 in all
abbrev pub near_after : List ℕ → ℕ → List ℕ
near_after after shown = take (80 - shown) after

-- the line that says that a line is cut, and where: from a column to a column of so many
unfoldable pub cut_text : List ℕ → (from to all : ℕ) → List ℕ
cut_text margin from to all = if from == 1 && to == all then []
    else concat (codes "  " ∷ margin ∷ codes " | columns " ∷ decimal from ∷ codes " to " ∷ decimal to
    ∷ codes " of " ∷ decimal all ∷ codes "\n" ∷ [])

-- the line and the mark
unfoldable pub marked_text : (line margin before after : List ℕ) → List ℕ
marked_text line margin before after = concat
    (codes "  " ∷ line ∷ codes " | " ∷ shown before ∷ shown after ∷ codes "\n  " ∷ margin ∷ codes " | "
    ∷ replicate (length (shown before)) 32 ∷ codes "^\n" ∷ [])

-- the line of a place: its number, what is near the place, a mark under the place, and where the line is cut
unfoldable pub excerpt_of : (line before after : List ℕ) → List ℕ
excerpt_of line before after =
    let margin = replicate (length line) 32 in
    let near = near_before before in
    let rest = near_after after (length near) in
    marked_text line margin near rest
    ++ cut_text margin (length before - length near + 1) (length before + length rest) (length before + length after)

unfoldable pub excerpt : List ℕ → ℕ → List ℕ
excerpt text at = excerpt_of (decimal (line_at text at)) (before_of text at) (after_of text at)
