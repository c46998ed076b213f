-- Which items of a place list read, and what is said of the first that doesn't.
use Rattle.std.specs.Prelude.{◌≡◌, ◌<◌, ℕ, List, Some, codes, length, slice_get}
use Rattle.diagnostics.specs.option_diagnostics.Item.{fault_line, items_of}
use Rattle.prepared_program.specs.place_list.Spelling.{Spells, SpellsPlace}
use Rattle.prepared_program.specs.declared.program_layout.place.Place.{Place}

-- the item is read
pub record Reads (item : List ℕ) : Type 0 where
  pub some : 0 < length item
  pub places : List Place
  pub spelled : Spells item places

-- each item of a text that isn't empty is read
abbrev pub AllRead : List ℕ → Type 0
AllRead text =
    0 < length text → (number : ℕ) (item : List ℕ) → slice_get (items_of text) number ≡ Some item → Reads item

-- what is said of the first item of a text that spells no place
pub record IsFault (text said : List ℕ) : Type 0 where
  pub number : ℕ
  pub item : List ℕ
  pub stands : slice_get (items_of text) number ≡ Some item
  pub refused : (place : Place) → SpellsPlace item place → ⊥
  pub before : (k : ℕ) (other : List ℕ) → k < number → slice_get (items_of text) k ≡ Some other → Reads other
  pub is : said ≡ fault_line number item (codes "NAME=ADDRESS")
