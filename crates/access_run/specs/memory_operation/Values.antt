-- The values of an access's bytes in the word of their cell, and those that a change gives them.
use Rattle.std.specs.Prelude.{◌+◌, ◌-◌, ◌*◌, ◌%◌, ◌^◌, ◌==◌, ℕ, Bool, true}
use Rattle.access_types.specs.Access.{Access}
use Rattle.litmus_semantics.specs.Values.{cut, sign_extended}
use Rattle.access_run.specs.declared.memory_operation.operation.Change.{Change}
use Rattle.access_run.specs.declared.memory_operation.operation.Change.TheVariants as changes
use Rattle.setup_access.specs.Values.{value_in}
use Rattle.setup_access.specs.declared.source.Source.{Source}

-- the word of a cell with a value, which so many bytes can hold, in the place of an access's bytes:
-- its other bytes stay
abbrev pub with_value : Access → Source → ℕ → ℕ → ℕ
with_value a source word value =
    word - value_in a source word * 2 ^ (8 * source.first) + value * 2 ^ (8 * source.first)

-- the sum of a value of so many bytes and an amount, in 64 bits
abbrev pub sum_of : ℕ → ℕ → ℕ → ℕ
sum_of size old amount = (sign_extended size old + amount) % 2 ^ 64

-- the value that a change gives so many bytes, which hold `old`: it is cut to what they can hold
abbrev pub new_value : ℕ → Change → ℕ → ℕ
new_value size (changes.Write value) old = cut size value
new_value size (changes.Exchange value) old = cut size value
new_value size (changes.AtomicAdd amount) old = cut size (sum_of size old amount)
new_value size (changes.CompareExchange expected replacement) old = cut size replacement

-- a change is made where the bytes hold this value: a cmpxchg where it is the expected one, cut to
-- what they can hold
abbrev pub is_wanted : ℕ → Change → ℕ → Bool
is_wanted size (changes.Write value) old = true
is_wanted size (changes.Exchange value) old = true
is_wanted size (changes.AtomicAdd amount) old = true
is_wanted size (changes.CompareExchange expected replacement) old = old == cut size expected
