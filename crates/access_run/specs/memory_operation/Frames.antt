-- Parts of a list of records that stand for themselves.
use Rattle.std.specs.Prelude.{◌≡◌, ◌↔◌, ◌++◌, List, []}
use Rattle.slot_table.specs.declared.records.Record.{Record}

-- The records begin with something, and the rest is left, exactly where a part of them is the whole
-- of it and the rest follows.
abbrev pub Framed : (List Record → List Record → Type 0) → Type 0
Framed Begins = (records rest : List Record)
    → Begins records rest ↔ ((part : List Record) × Begins part [] × (records ≡ part ++ rest))
