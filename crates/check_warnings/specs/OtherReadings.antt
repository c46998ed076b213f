-- What `check` warns of where C reads a token, or two, otherwise.
use Rattle.std.specs.Prelude.{◌==◌, ◌&&◌, ◌++◌, ℕ, Bool, List, [], ◌∷◌, codes, drop, false, if◌then◌else◌, map, nat_eq}
use Rattle.std.specs.Char.{is_ascii_digit}
use Rattle.std.specs.Fmt.{decimal}
use Rattle.std.specs.List.{concat, starts_with}
use Rattle.litmus_lex.specs.Lines.{column_at, line_at}
use Rattle.litmus_lex.specs.Tokens.{Placed}
use Rattle.litmus_lex.specs.declared.cursor.Spot.{Spot}
use Rattle.program_table.specs.text_pieces.Shown.{shown}
use Rattle.check_warnings.specs.declared.other_readings.OtherReading.{OtherReading}
use Rattle.check_warnings.specs.declared.other_readings.OtherReading.TheVariants as readings

-- a decimal number with a 0 (48) before its other digits
unfoldable pub is_octal : List ℕ → Bool
is_octal [] = false
is_octal (first ∷ []) = false
is_octal (first ∷ (second ∷ others)) = first == 48 && is_ascii_digit second

-- how C reads otherwise what a text goes on with from a token on
unfoldable pub reading_of : List ℕ → OtherReading
reading_of bytes =
    if starts_with nat_eq bytes (codes "--") then readings.Decrement
    else if is_octal bytes then readings.Octal
    else readings.Same

-- a warning on this place of a text, in a file of this name
unfoldable pub placed_line : (file text : List ℕ) → (at : ℕ) → (words : List ℕ) → List ℕ
placed_line file text at words = concat
    (shown file ∷ codes ":" ∷ decimal (line_at text at) ∷ codes ":" ∷ decimal (column_at text at) ∷ words ∷ [])

-- the warning on a token at this place that C reads so
unfoldable pub reading_line : (file text : List ℕ) → (at : ℕ) → OtherReading → List ℕ
reading_line file text at readings.Decrement =
    placed_line file text at (codes ": warning: `--` is the minus of a minus, and changes nothing: for `--r0` write `r0 = r0 - 1;` before it\n")
reading_line file text at readings.Octal =
    placed_line file text at (codes ": warning: a number with 0 before it is decimal, where C reads it as octal: for `010` of C write 8\n")
reading_line file text at readings.Same = []

-- the warning on a token at this place
unfoldable pub token_line : (file text : List ℕ) → (at : ℕ) → List ℕ
token_line file text at = reading_line file text at (reading_of (drop at text))

-- the warnings on the tokens at these places
abbrev pub lines_at : (file text : List ℕ) → List ℕ → List ℕ
lines_at file text [] = []
lines_at file text (at ∷ places) = token_line file text at ++ lines_at file text places

-- where tokens begin
abbrev pub places_of : List Placed → List ℕ
places_of tokens = map (λ token. token.at) tokens

abbrev pub places_of_spots : List Spot → List ℕ
places_of_spots spots = map (λ spot. spot.at) spots
