-- How a schedule is spelled: tasks with numbers of steps, joined by commas.
use Rattle.std.specs.Prelude.{◌≡◌, ◌<◌, ◌^◌, ◌++◌, ◌∷◌, ℕ, List, true, length}
use Rattle.std.specs.Str.{all_ascii_digits}
use Rattle.std.specs.Str.Parse.{digits_value}
use Rattle.prepared_program.specs.Lists.{SpellsList}
use Rattle.prepared_program.specs.declared.step_schedule.schedule.Entry.{Entry}

-- decimal digits, at least one, spell a number below 2^64
pub record SpellsNumber (text : List ℕ) (number : ℕ) : Type 0 where
  pub digits : all_ascii_digits text ≡ true
  pub some : 0 < length text
  pub value : digits_value 10 text ≡ number
  pub below : number < 2 ^ 64

-- a text spells an entry: the task, an `x` and the number of its steps
pub record SpellsEntry (text : List ℕ) (entry : Entry) : Type 0 where
  pub before : List ℕ
  pub after : List ℕ
  pub parts : text ≡ before ++ 120 ∷ after
  pub task : SpellsNumber before entry.task
  pub steps : SpellsNumber after entry.steps

-- a text spells entries, joined by commas
abbrev pub Spells : List ℕ → List Entry → Type 0
Spells = SpellsList SpellsEntry
