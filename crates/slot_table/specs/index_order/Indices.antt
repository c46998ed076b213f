-- The three indices of an access, in the order of look-ups and in that of insertions.
use Rattle.std.specs.Prelude.{◌+◌, ℕ, Option, None, Some}
use Rattle.slot_table.specs.declared.index_order.place.ProbeIndex.{ProbeIndex}
use Rattle.slot_table.specs.declared.index_order.place.ProbeIndex.TheVariants.{First, Second, Third}

-- the index of a place in the order of look-ups
abbrev pub look_index : ProbeIndex → ℕ → ℕ
look_index First slot = slot
look_index Second slot = slot + 1
look_index Third slot = slot + 2

-- the index of a place in the order of insertions
abbrev pub try_index : ProbeIndex → ℕ → ℕ
try_index First slot = slot + 1
try_index Second slot = slot + 2
try_index Third slot = slot

-- the place after one
abbrev pub place_after : ProbeIndex → Option ProbeIndex
place_after First = Some Second
place_after Second = Some Third
place_after Third = None
