-- When the old and the new value of an access's bytes differ in a bit that counts for it.
use Rattle.std.specs.Prelude.{◌≡◌, ◌≢◌, ℕ, Option, Some, None, IsSomeAnd}
use Rattle.std.specs.Int.{bit_at}
use Rattle.access_types.specs.Access.{Access}
use Rattle.access_types.specs.declared.report.ValueChange.{ValueChange}
use Rattle.value_filter.specs.declared.verdict.Change.{Change}
use Rattle.value_filter.specs.declared.verdict.Change.TheVariants.{Maybe, Ruled, Seen}

-- a bit position counts if it is in the mask, or if there is no mask
abbrev pub Counts : Option ℕ → ℕ → Type 0
Counts None position = Unit {0}
Counts (Some mask) position = bit_at mask position ≡ 1

-- at some bit position that counts, the two have different values
pub record BitDiffers (mask : Option ℕ) (old new : ℕ) : Type 0 where
  pub position : ℕ
  pub counts : Counts mask position
  pub differ : bit_at old position ≢ bit_at new position

-- there are an old and a new value, and a bit that counts for the access differs
abbrev pub IsSeen : Access → Option (ℕ × ℕ) → Type 0
IsSeen a values = IsSomeAnd values (λ value. BitDiffers a.mask value.0 value.1)

-- old and new are reported where a change was seen
abbrev pub seen_values : Change → Option (ℕ × ℕ) → Option ValueChange
seen_values Seen None = None
seen_values Seen (Some values) = Some (record { old = values.0; new = values.1 })
seen_values Maybe values = None
seen_values Ruled values = None
