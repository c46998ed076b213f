-- How a list of items is spelled: the texts of its items, joined by commas.
use Rattle.std.specs.Prelude.{◌≡◌, ◌∷◌, [], ℕ, List}
use Rattle.std.specs.List.{join_with_byte}

-- each text spells the item at its place
abbrev pub SpellEach : {A : Type 0} → (List ℕ → A → Type 0) → List (List ℕ) → List A → Type 0
SpellEach SpellsItem [] [] = Unit {0}
SpellEach SpellsItem [] (value ∷ values) = ⊥
SpellEach SpellsItem (text ∷ texts) [] = ⊥
SpellEach SpellsItem (text ∷ texts) (value ∷ values) = SpellsItem text value × SpellEach SpellsItem texts values

-- a text spells a list: texts that spell each item, joined by commas
pub record SpellsList {A : Type 0} (SpellsItem : List ℕ → A → Type 0) (text : List ℕ) (values : List A) : Type 0 where
  pub items : List (List ℕ)
  pub joined : text ≡ join_with_byte 44 items
  pub each : SpellEach SpellsItem items values
