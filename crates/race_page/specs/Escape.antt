-- Texts from files as they are written in HTML.
use Rattle.std.specs.Prelude.{◌==◌, ◌≡◌, ◌≢◌, ◌≤◌, ◌⊎◌, ℕ, List, [], ◌∷◌, codes, if◌then◌else◌}
use Rattle.std.specs.List.{flat_map}
use Rattle.program_table.specs.text_pieces.Shown.{shown_byte}

-- A byte: where it has a meaning in HTML the entity that stands for it. A tab stays, a carriage return is a blank, and
-- where another byte can't be shown it is written by its number.
abbrev pub escaped_byte : ℕ → List ℕ
escaped_byte byte =
    if byte == 38 then codes "&amp;" else if byte == 60 then codes "&lt;" else if byte == 62 then codes "&gt;"
    else if byte == 34 then codes "&quot;" else if byte == 39 then codes "&#39;"
    else if byte == 9 then 9 ∷ [] else if byte == 13 then 32 ∷ [] else shown_byte byte

-- a text
abbrev pub escaped : List ℕ → List ℕ
escaped text = flat_map escaped_byte text

-- The byte is a tab or a sign that can be shown, and it neither opens nor closes a tag, nor ends the value of an
-- attribute.
pub record IsHarmless (byte : ℕ) : Type 0 where
  pub opens_none : byte ≢ 60
  pub closes_none : byte ≢ 62
  pub no_quote : byte ≢ 34
  pub no_apostrophe : byte ≢ 39
  pub shows : (byte ≡ 9) ⊎ ((32 ≤ byte) × (byte ≤ 126))

-- what stands behind the `&` of the entities that are written
abbrev pub entities : List (List ℕ)
entities = codes "amp;" ∷ codes "lt;" ∷ codes "gt;" ∷ codes "quot;" ∷ codes "#39;" ∷ []
