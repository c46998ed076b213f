-- Which items of a schedule read, and what is said of the first that doesn't.
use Rattle.std.specs.Prelude.{◌≡◌, ◌<◌, ℕ, List, Some, codes, length, slice_get}
use Rattle.diagnostics.specs.option_diagnostics.Item.{fault_line, items_of}
use Rattle.prepared_program.specs.step_schedule.Spelling.{Spells, SpellsEntry}
use Rattle.prepared_program.specs.declared.step_schedule.schedule.Entry.{Entry}

-- the item is read
pub record Reads (item : List ℕ) : Type 0 where
  pub some : 0 < length item
  pub entries : List Entry
  pub spelled : Spells item entries

-- each item of a text that isn't empty is read
abbrev pub AllRead : List ℕ → Type 0
AllRead text =
    0 < length text → (number : ℕ) (item : List ℕ) → slice_get (items_of text) number ≡ Some item → Reads item

-- what is said of the first item of a text that spells no entry
pub record IsFault (text said : List ℕ) : Type 0 where
  pub number : ℕ
  pub item : List ℕ
  pub stands : slice_get (items_of text) number ≡ Some item
  pub refused : (entry : Entry) → SpellsEntry item entry → ⊥
  pub before : (k : ℕ) (other : List ℕ) → k < number → slice_get (items_of text) k ≡ Some other → Reads other
  pub is : said ≡ fault_line number item (codes "TxC, a task and a number of steps")
