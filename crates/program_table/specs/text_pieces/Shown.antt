-- Bytes as they are shown, whatever they are.
use Rattle.std.specs.Prelude.{◌==◌, ◌&&◌, ◌-◌, ◌/◌, ◌%◌, ◌++◌, ℕ, List, [], ◌∷◌, false, codes, if◌then◌else◌, length, nat_le, take}
use Rattle.std.specs.Fmt.{digit_glyph}
use Rattle.std.specs.List.{flat_map}

-- a byte that can't be shown: `\x` and two hexadecimal digits; 92 is `\` and 120 is `x`
abbrev pub by_number : ℕ → List ℕ
by_number byte = 92 ∷ 120 ∷ digit_glyph false (byte / 16) ∷ digit_glyph false (byte % 16) ∷ []

-- a byte as it is shown: a tab as a blank, a blank to `~` as it is, and another by its number
abbrev pub shown_byte : ℕ → List ℕ
shown_byte byte = if byte == 9 then 32 ∷ [] else if nat_le 32 byte && nat_le byte 126 then byte ∷ [] else by_number byte

abbrev pub shown : List ℕ → List ℕ
shown bytes = flat_map shown_byte bytes

-- a name where there is room for so many bytes: cut, with `..` behind it, where it is longer
unfoldable pub cut : (name : List ℕ) → (room : ℕ) → List ℕ
cut name room = if nat_le (length name) room then name else take (room - 2) name ++ codes ".."
