-- The items of a list, and what is said of one that doesn't read.
use Rattle.std.specs.Prelude.{◌+◌, ◌==◌, ℕ, List, [], ◌∷◌, codes}
use Rattle.std.specs.Fmt.{decimal}
use Rattle.std.specs.List.{concat, slice_split}
use Rattle.program_table.specs.text_pieces.Shown.{shown}

-- the texts between the commas of a text
abbrev pub items_of : List ℕ → List (List ℕ)
items_of text = slice_split (λ byte. byte == 44) text

-- the line that names an item, by its number from 0, and says what it should be
unfoldable pub fault_line : (place : ℕ) → (item form : List ℕ) → List ℕ
fault_line place item form = concat
    (codes "item " ∷ decimal (place + 1) ∷ codes ": `" ∷ shown item
    ∷ codes "` is no " ∷ form ∷ codes "\n" ∷ [])
