-- Classes of bytes, longest runs of a class before a rest, and rows of pieces that stand one after the other.
use Rattle.std.specs.Prelude.{◌≡◌, ◌==◌, ◌||◌, ℕ, List, [], ◌∷◌, ◌++◌, Bool, true, false, not}
use Rattle.std.specs.List.{concat}
use Rattle.std.specs.Int.{is_in_range}
use Rattle.std.specs.Char.{is_ascii_alphabetic, is_ascii_alphanumeric, is_ascii_digit, is_ascii_hexdigit}
use Rattle.litmus_lex.specs.declared.bytes.Class.{Class}
use Rattle.litmus_lex.specs.declared.bytes.Class.TheVariants.{Blank, Graphic, NameStart, NamePart, Digit, HexDigit, InLine, InQuotes}

-- is the byte of the class? 9 is a tab, 10 LF, 13 CR, 32 a blank, 34 a quote and 95 '_'
abbrev pub belongs : Class → ℕ → Bool
belongs Blank byte = (byte == 9 || byte == 10) || (byte == 13 || byte == 32)
belongs Graphic byte = is_in_range 0x21 0x7E byte
belongs NameStart byte = byte == 95 || is_ascii_alphabetic byte
belongs NamePart byte = byte == 95 || is_ascii_alphanumeric byte
belongs Digit byte = is_ascii_digit byte
belongs HexDigit byte = is_ascii_hexdigit byte
belongs InLine byte = not (byte == 10)
belongs InQuotes byte = not (byte == 34)

-- the bytes are of the class, as many as there are before the rest
abbrev pub IsRun : Class → List ℕ → List ℕ → Type 0
IsRun class [] [] = Unit {0}
IsRun class [] (next ∷ rest) = belongs class next ≡ false
IsRun class (byte ∷ run) rest = (belongs class byte ≡ true) × IsRun class run rest

-- the bytes end with the pair, which stands nowhere before
abbrev pub EndsAtPair : ℕ → ℕ → List ℕ → Type 0
EndsAtPair first second [] = ⊥
EndsAtPair first second (a ∷ []) = ⊥
EndsAtPair first second (a ∷ b ∷ []) = (a ≡ first) × (b ≡ second)
EndsAtPair first second (a ∷ b ∷ c ∷ bytes) =
    ¬ ((a ≡ first) × (b ≡ second)) × EndsAtPair first second (b ∷ c ∷ bytes)

-- the pair stands nowhere in the bytes
abbrev pub LacksPair : ℕ → ℕ → List ℕ → Type 0
LacksPair first second [] = Unit {0}
LacksPair first second (a ∷ []) = Unit {0}
LacksPair first second (a ∷ b ∷ bytes) =
    ¬ ((a ≡ first) × (b ≡ second)) × LacksPair first second (b ∷ bytes)

-- pieces stand before the rest, one after the other, each as the relation wants it before what
-- follows it
abbrev pub InRow : (List ℕ → List ℕ → Type 0) → List (List ℕ) → List ℕ → Type 0
InRow Stands [] rest = Unit {0}
InRow Stands (piece ∷ pieces) rest = Stands piece (concat pieces ++ rest) × InRow Stands pieces rest

-- the bytes are such pieces before the rest, maybe none
abbrev pub IsRow : (List ℕ → List ℕ → Type 0) → List ℕ → List ℕ → Type 0
IsRow Stands bytes rest =
    (pieces : List (List ℕ)) × (bytes ≡ concat pieces) × InRow Stands pieces rest
