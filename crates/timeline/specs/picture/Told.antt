-- The lines in which an access is told.
use Rattle.std.specs.Prelude.{◌++◌, ◌∷◌, ℕ, List, [], codes}
use Rattle.std.specs.List.{concat}
use Rattle.access_types.specs.Stamped.{Stamped}
use Rattle.timeline.specs.Texts.{known_or}
use Rattle.timeline.specs.picture.Labels.{variable_of}
use Rattle.timeline.specs.picture.Words.{address, doing, site_words, size_words}
use Rattle.timeline.specs.declared.picture.labels.Label.{Label}

-- the name of the variable in a spelling, or the address, where the name isn't known
abbrev pub object : (spelling : List ℕ → List ℕ) → List Label → Stamped → List ℕ
object spelling labels s = known_or spelling (address s) (variable_of labels s)

-- what it does to how many bytes of what, as P0 read x, 4 bytes
abbrev pub first_line : (spelling : List ℕ → List ℕ) → List Label → Stamped → List ℕ
first_line spelling labels s = doing s ++ (object spelling labels s ++ concat (codes ", " ∷ size_words s ∷ []))

-- its site, and what its task's context made of it
abbrev pub second_line : Stamped → List ℕ
second_line s = site_words s
