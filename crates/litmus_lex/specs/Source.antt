-- How far a source of bytes was read: what it gave, within a bound, and how its failures are counted.
use Rattle.std.specs.Prelude.{◌≡◌, ◌+◌, ◌-◌, ◌^◌, ◌≤◌, ◌⊎◌, ℕ, List, Option, Some, None, length, take, ⊤}
use Rattle.std.specs.Io.KnownBytes.{Consumes}

-- the count of failures rose by one, or stood at its last value
abbrev pub CountsFailure : ℕ → ℕ → Type 0
CountsFailure before after = (after ≡ before + 1) ⊎ (before ≡ 2 ^ 64 - 1)

-- the bytes are all that a source had to give, or as many of them as the bound, where it can say
-- what it will give
abbrev pub IsAllUpTo : ℕ → Option (List ℕ) → List ℕ → Type 0
IsAllUpTo bound None bytes = ⊤
IsAllUpTo bound (Some all) bytes = bytes ≡ take bound all

-- a source has given some bytes, no more than the bound
abbrev pub StandsFurther : ℕ → Option (List ℕ) → Option (List ℕ) → Type 0
StandsFurther bound before after =
    (given : List ℕ) × (length given ≤ bound) × Consumes before after given
