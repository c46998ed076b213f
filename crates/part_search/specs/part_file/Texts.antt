-- A part of a search as a text: its value as JSON, in one line.
use Rattle.std.specs.Prelude.{◌≡◌, ◌++◌, ◌∷◌, [], ℕ, IsUtf8, List, Some}
use Rattle.part_search.specs.part_file.Reads.{part_in}
use Rattle.part_search.specs.part_file.Values.{part_data}
use Rattle.part_search.specs.part_file.Views.{PartView}
use Rattle.serde_json.specs.Read.{read}
use Rattle.serde_json.specs.Written.{compact_text}

-- what stands in the line
unfoldable pub line_of : PartView → List ℕ
line_of part = compact_text (part_data part)

-- the line and its end
abbrev pub text_of : PartView → List ℕ
text_of part = line_of part ++ 10 ∷ []

-- The text is that of the part, and it reads as the part: JSON spells the value of the part, of which the part is read.
pub record IsTextOf (part : PartView) (text : List ℕ) : Type 0 where
  pub written : text ≡ text_of part
  pub valid : IsUtf8 (line_of part)
  pub spelled : read (line_of part) ≡ Some (part_data part)
  pub back : part_in (part_data part) ≡ part
