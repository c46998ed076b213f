-- What a check comes to where more records follow on it than on itself alone.
use Rattle.std.specs.Prelude.{◌≡◌, ◌↔◌, ◌++◌, List, []}
use Rattle.setup_access.specs.Check.{Passes}
use Rattle.setup_access.specs.Fallen.{followed}
use Rattle.slot_table.specs.declared.records.Record.{Record}

-- what checks come to, before these records too: their outcomes fell before these as well
abbrev pub moved : List Record → Passes → Passes
moved rest passes = record passes { outcomes = followed rest passes.outcomes }

-- The records begin with checks that come to this, and the rest is left, exactly where a part of them
-- is the whole of these checks, which come to the same before the rest, and the rest follows.
abbrev pub FramedChecks : (List Record → Passes → List Record → Type 0) → Type 0
FramedChecks Begins = (records : List Record) (passes : Passes) (rest : List Record)
    → Begins records passes rest
    ↔ ((part : List Record) × (alone : Passes) × Begins part alone [] × (records ≡ part ++ rest)
    × (passes ≡ moved rest alone))
