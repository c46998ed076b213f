-- What the clock tells.
use Rattle.std.specs.Prelude.{ℕ, Bool, List, count_by, false, true}
use Rattle.access_types.specs.declared.history.Happening.{Happening}
use Rattle.access_types.specs.declared.history.Happening.TheVariants.{End}
use Rattle.slot_table.specs.declared.records.Record.{Record}
use Rattle.slot_table.specs.declared.step.Step.{Step}
use Rattle.slot_table.specs.declared.step.Step.TheVariants.{Clock}

-- a step of the clock
abbrev pub is_clock : Step → Bool
is_clock Clock = true
is_clock step = false

-- how many of these records are steps of the clock
abbrev pub stamps_in : List Record → ℕ
stamps_in records = count_by (λ made. is_clock made.step) records

-- an access ends
abbrev pub is_end : Happening → Bool
is_end (End a) = true
is_end happening = false
