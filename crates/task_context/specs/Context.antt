-- What a task keeps of its KCSAN calls.
use Rattle.std.specs.Prelude.{ℕ, Bool, false}

-- what a task keeps: how often reporting is disabled, how many nested regions are open, whether a
-- flat one is, and how many of the next accesses count as marked
pub record Context : Type 0 where
  pub disable_count : ℕ
  pub nest_count : ℕ
  pub in_flat : Bool
  pub atomic_next : ℕ

-- nothing is open, and nothing is left
abbrev pub idle : Context
idle = record { disable_count = 0; nest_count = 0; in_flat = false; atomic_next = 0 }
