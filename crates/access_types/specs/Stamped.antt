-- What is kept of an access that has ended: its two stamps, and what it counted as.
use Rattle.std.specs.Prelude.{ℕ, Bool}
use Rattle.access_types.specs.Access.{Access}

-- an access that has ended: what the clock showed at its begin and at its end, whether it counted
-- as marked, and whether it was silenced
pub record Stamped : Type 0 where
  pub access : Access
  pub begin : ℕ
  pub end : ℕ
  pub marked : Bool
  pub silenced : Bool
