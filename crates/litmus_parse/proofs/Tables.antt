-- Which variables are locks is known from the table.
use Rattle.std.proofs.Common.{◌≡◌, List, [], ◌∷◌, Bool, refl, ap, map}
use Rattle.litmus_parse.specs.declared.declaration.Declarations.{Declarations}
use Rattle.litmus_parse.specs.declared.declaration.Declared.{Declared}
use Rattle.litmus_parse.specs.Entries.{entry_of, table_of}
use Rattle.litmus_parse.specs.Variables.{locks_in}
use Rattle.litmus_parse.specs.VariableReader.{is_lock, locks_of}

locks_same : (ds : List Declared) → map is_lock ds ≡ locks_in (map entry_of ds)
locks_same [] = refl
locks_same (d ∷ ds) = ap (λ (l : List Bool). is_lock d ∷ l) (locks_same ds)

pub locks_are : (d : Declarations) → locks_of d ≡ locks_in (table_of d)
locks_are d = locks_same d.variables.items
