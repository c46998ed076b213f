-- Lists of records that are the whole of something.
use Rattle.std.specs.Prelude.{◌≡◌, ◌++◌, List, []}
use Rattle.slot_table.specs.declared.records.Record.{Record}

-- neither the records nor a beginning of them are the whole of it
abbrev pub NoneWhole : {X : Type 0} → (List Record → X → List Record → Type 0) → List Record → Type 0
NoneWhole {X = X} Begins records =
    (part later : List Record) (value : X) → records ≡ part ++ later → ¬ Begins part value []

-- The records are the whole of it, and it comes to this; and of whatever begins with them and with
-- it, all else is left, where it comes to the same, moved before the rest.
abbrev pub IsWhole : {X : Type 0} → (List Record → X → X) → (List Record → X → List Record → Type 0)
    → List Record → X → Type 0
IsWhole {X = X} moves Begins records value =
    Begins records value []
    × ((later : List Record) (other : X) (rest : List Record) → Begins (records ++ later) other rest
    → (rest ≡ later) × (other ≡ moves rest value))
