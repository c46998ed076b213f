-- What is done with files.
use Rattle.std.specs.Prelude.{◌≡◌, ◌++◌, ◌∷◌, ◌⊎◌, ℕ, List, [], Option, Some, None}

-- a file of a name gave these bytes, of which no more than so many and one were asked for, or was written and has these
-- bytes since
pub data FileEvent : Type 0 where
  Gave : (name : List ℕ) → (limit : ℕ) → (bytes : List ℕ) → FileEvent
  Has : (name bytes : List ℕ) → FileEvent

-- the event stands behind what was done, where that can be said
abbrev pub noted : Option (List FileEvent) → FileEvent → Option (List FileEvent)
noted None event = None
noted (Some before) event = Some (before ++ event ∷ [])

-- one file was read, or none, and none was written
abbrev pub OnlyRead : Option (List FileEvent) → Option (List FileEvent) → Type 0
OnlyRead before after =
    (after ≡ before) ⊎ ((name : List ℕ) × (limit : ℕ) × (bytes : List ℕ) × (after ≡ noted before (Gave name limit bytes)))
