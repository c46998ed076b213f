-- A text in a column of a table.
use Rattle.std.specs.Prelude.{◌-◌, ◌++◌, ℕ, List, length, replicate}

-- a text with as many blanks behind it as fill so many signs; a longer one has none
unfoldable pub padded : (text : List ℕ) → (width : ℕ) → List ℕ
padded text width = text ++ replicate (width - length text) 32
