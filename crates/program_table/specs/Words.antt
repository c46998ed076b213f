-- Which word each access has.
use Rattle.std.specs.Prelude.{ℕ, Option, None, Some}
use Rattle.access_types.specs.Access.{Access}
use Rattle.watch_word.specs.Word.{Encodable, WordOf}
use Rattle.watch_word.specs.declared.layout.Layout.{Layout}

-- the word that an access has, and none where no word can stand for it
abbrev pub IsWordIn : Layout → Access → Option ℕ → Type 0
IsWordIn layout access None = ¬ Encodable access
IsWordIn layout access (Some word) = WordOf layout access word

-- the words of accesses in a layout
pub record AreWords (layout : Layout) : Type 0 where
  pub of : Access → Option ℕ
  pub are : (access : Access) → IsWordIn layout access (of access)
