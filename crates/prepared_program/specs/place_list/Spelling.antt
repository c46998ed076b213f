-- Which texts spell which places.
use Rattle.std.specs.Prelude.{◌≡◌, ◌<◌, ◌^◌, ◌++◌, ◌∷◌, ◌==◌, ◌||◌, ◌⊎◌, ℕ, Bool, List, true, false, length, slice_index}
use Rattle.std.specs.Char.{is_ascii_alphanumeric, is_ascii_digit}
use Rattle.std.specs.List.{list_all}
use Rattle.std.specs.Str.Parse.{IsNumeral, digits_value}
use Rattle.prepared_program.specs.Lists.{SpellsList}
use Rattle.prepared_program.specs.declared.program_layout.place.Place.{Place}

-- the byte may stand in a name: a letter, a digit, or `_`, which is 95
abbrev pub is_part : ℕ → Bool
is_part byte = byte == 95 || is_ascii_alphanumeric byte

-- letters, digits and `_`, at least one of them, and the first is no digit
pub record SpellsName (name : List ℕ) : Type 0 where
  pub parts : list_all is_part name ≡ true
  pub some : 0 < length name
  pub start : is_ascii_digit (slice_index name 0) ≡ false

-- digits in a radix, at least one of them, spell a number below 2^64
pub record SpellsDigits (radix : ℕ) (digits : List ℕ) (number : ℕ) : Type 0 where
  pub numeral : IsNumeral radix digits
  pub value : digits_value radix digits ≡ number
  pub below : number < 2 ^ 64

-- a text spells a number: decimal digits, or `0x` and hexadecimal digits; 48 is '0' and 120 is 'x'
abbrev pub SpellsNumber : List ℕ → ℕ → Type 0
SpellsNumber text number = SpellsDigits 10 text number
    ⊎ ((digits : List ℕ) × (text ≡ 48 ∷ 120 ∷ digits) × SpellsDigits 16 digits number)

-- a text spells a place: the name, a `=`, which is 61, and the address
pub record SpellsPlace (text : List ℕ) (place : Place) : Type 0 where
  pub address : List ℕ
  pub parts : text ≡ place.name ++ 61 ∷ address
  pub name : SpellsName place.name
  pub number : SpellsNumber address place.addr

-- a text spells places, joined by commas
abbrev pub Spells : List ℕ → List Place → Type 0
Spells = SpellsList SpellsPlace
