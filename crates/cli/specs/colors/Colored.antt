-- A text whose lines are coloured by how they begin.
use Rattle.std.specs.Prelude.{◌==◌, ◌++◌, ◌∷◌, [], ℕ, List, codes, if◌then◌else◌, map, nat_eq}
use Rattle.std.specs.List.{join_with_byte, slice_split, starts_with}
use Rattle.cli.specs.declared.colors.lines.Style.{Style}

-- what a line begins with, and the parameters of the escape before it
abbrev pub Row : Type 0
Row = List ℕ × List ℕ

-- those of a style
abbrev pub row_of : Style → Row
row_of style = (style.0.now, style.1.now)

-- The styles: bold red for the title of a report and for a pair that is reported; bold magenta for other races, yellow
-- for what is left open, and green for pairs that don't race and for a trace that is accepted; bold for the name of a
-- file and for the heads of the tables of `check`.
abbrev pub styles : List Row
styles =
    (codes "BUG: KCSAN: ", codes "1;31") ∷ (codes "reported  ", codes "1;31")
    ∷ (codes "missed  ", codes "1;35") ∷ (codes "race  ", codes "1;35") ∷ (codes "not settled  ", codes "33")
    ∷ (codes "no race  ", codes "32") ∷ (codes "apart  ", codes "32") ∷ (codes "trace accepted: ", codes "32")
    ∷ (codes "== ", codes "1") ∷ (codes "access  ", codes "1") ∷ (codes "variable  ", codes "1") ∷ (codes "limit  ", codes "1") ∷ []

-- an escape: ESC, `[`, its parameters and `m` (SGR of ECMA-48)
abbrev pub escape : (parameters : List ℕ) → List ℕ
escape parameters = 27 ∷ 91 ∷ (parameters ++ 109 ∷ [])

-- a line between an escape and the one that ends it
abbrev pub styled : (parameters line : List ℕ) → List ℕ
styled parameters line = escape parameters ++ (line ++ escape (codes "0"))

-- a line, in the first of these styles that it begins as, if there is one
abbrev pub colored_line : List Row → List ℕ → List ℕ
colored_line [] line = line
colored_line (row ∷ rows) line = if starts_with nat_eq line row.0 then styled row.1 line else colored_line rows line

-- a text, each of its lines so: nothing else is added
abbrev pub colored : List ℕ → List ℕ
colored text = join_with_byte 10 (map (colored_line styles) (slice_split (λ byte. byte == 10) text))

-- a text that goes on behind a line so far, each line in these styles
abbrev pub colored_from : List Row → (line text : List ℕ) → List ℕ
colored_from rows line [] = colored_line rows line
colored_from rows line (byte ∷ text) =
    if byte == 10 then colored_line rows line ++ 10 ∷ colored_from rows [] text
    else colored_from rows (line ++ byte ∷ []) text
