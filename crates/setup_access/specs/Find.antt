-- A look-up as records: loads of the three indices, up to the first word that matches.
use Rattle.std.specs.Prelude.{◌≡◌, ◌⊎◌, ℕ, List, [], ◌∷◌, Option, None, Some}
use Rattle.access_types.specs.Access.{Access}
use Rattle.slot_table.specs.declared.records.Record.{Record}
use Rattle.slot_table.specs.declared.step.Step.TheVariants.{Load}
use Rattle.setup_access.specs.Hits.{Hits}
use Rattle.setup_access.specs.Records.{MakesWord}
use Rattle.setup_access.specs.Setting.{Setting, look_order, slot_of}
use Rattle.setup_access.specs.declared.outcome.Watchpoint.{Watchpoint}

-- the records begin with loads of these indices, in order, up to the first word that matches the access; this was
-- found, or none, and the rest follows
abbrev pub LooksUp : Setting → Access → List ℕ → List Record → Option Watchpoint → List Record → Type 0
LooksUp s a [] records found rest = (found ≡ None) × (rest ≡ records)
LooksUp s a (index ∷ indices) records found rest = MakesWord s.task (Load index) (λ word later.
    (Hits s.rules.layout a word × (found ≡ Some (record { index = index; word = word })) × (rest ≡ later))
    ⊎ (¬ Hits s.rules.layout a word × LooksUp s a indices later found rest)) records

-- the records begin with a look-up
abbrev pub Finds : Setting → Access → List Record → Option Watchpoint → List Record → Type 0
Finds s a = LooksUp s a (look_order (slot_of s a))
