-- Which accesses have a value, and how it is loaded from the one cell that they lie in.
use Rattle.std.specs.Prelude.{◌≡◌, ◌==◌, ◌||◌, ◌&&◌, ◌+◌, ◌-◌, ◌*◌, ◌/◌, ◌%◌, ◌^◌, ℕ, List, Bool, Option, None, Some, nat_le, position, slice_index, if◌then◌else◌}
use Rattle.std.specs.Option.{option_map}
use Rattle.access_types.specs.Access.{Access}
use Rattle.slot_table.specs.declared.records.Record.{Record}
use Rattle.slot_table.specs.declared.step.Step.TheVariants.{CellLoad}
use Rattle.setup_access.specs.Records.{MakesWord}
use Rattle.setup_access.specs.Setting.{Setting}
use Rattle.setup_access.specs.declared.source.Source.{Source}

-- bytes of these sizes have a value
abbrev pub has_value : ℕ → Bool
has_value size = (size == 1) || (size == 2) || (size == 4) || (size == 8)

-- the range of an access lies in the cell of eight bytes at an address
abbrev pub lies_in : Access → ℕ → Bool
lies_in a cell = nat_le cell a.addr && nat_le (a.addr + a.size) (cell + 8)

-- that of an access in a cell
abbrev pub source_in : Setting → Access → ℕ → Source
source_in s a cell = record { cell = cell; first = a.addr - slice_index s.cells cell }

-- where an access's value is loaded from, if it has one: bytes of such a size, in one cell; the first such, and the
-- only one where no two cells have one address
abbrev pub source_of : Setting → Access → Option Source
source_of s a = if has_value a.size then option_map (source_in s a) (position (lies_in a) s.cells) else None

-- the bytes of an access in the word of its cell, the lowest first
abbrev pub value_in : Access → Source → ℕ → ℕ
value_in a source word = word / 2 ^ (8 * source.first) % 2 ^ (8 * a.size)

-- the value of an access is loaded from its cell; where it has none there is no step
abbrev pub LoadsFrom : Setting → Access → Option Source → List Record → Option ℕ → List Record → Type 0
LoadsFrom s a None records value rest = (value ≡ None) × (rest ≡ records)
LoadsFrom s a (Some source) records value rest = MakesWord s.task (CellLoad source.cell) (λ word later.
    (value ≡ Some (value_in a source word)) × (rest ≡ later)) records

-- the records begin with the load of an access's value
abbrev pub LoadsValue : Setting → Access → List Record → Option ℕ → List Record → Type 0
LoadsValue s a = LoadsFrom s a (source_of s a)

-- both values, where both were loaded
abbrev pub both_values : Option ℕ → Option ℕ → Option (ℕ × ℕ)
both_values None new = None
both_values (Some old) None = None
both_values (Some old) (Some new) = Some (old, new)
