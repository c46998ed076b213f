-- Counts of 64 bits.
use Rattle.std.specs.Prelude.{◌-◌, ◌^◌, ℕ, min}

-- a count that stops at the largest number of 64 bits
abbrev pub up_to_last : ℕ → ℕ
up_to_last count = min count (2 ^ 64 - 1)
