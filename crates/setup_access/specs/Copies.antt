-- When a checker is a copy of another, and when two stand as one.
use Rattle.std.specs.Prelude.{◌≡◌}
use Rattle.access_types.specs.Sites.{AccessMap}
use Rattle.setup_access.specs.Kept.{setting_with}
use Rattle.setup_access.specs.Shown.{room_of}
use Rattle.setup_access.specs.declared.checker.Checker.{Checker}

-- a copy of a checker: all that it keeps is the same, and only its lists, of as much room, lie elsewhere
pub record IsCopy (checker copy : Checker) : Type 0 where
  pub setting : (sites : AccessMap) → setting_with copy.setting sites ≡ setting_with checker.setting sites
  pub in_force : copy.scopes.items ≡ checker.scopes.items
  pub context : copy.context ≡ checker.context
  pub sampler : copy.sampler ≡ checker.sampler
  pub last : copy.last ≡ checker.last
  pub stage : copy.stage ≡ checker.stage
  pub outcomes : copy.outcomes ≡ checker.outcomes
  pub room : room_of copy ≡ room_of checker

-- two checkers stand as one: all that they keep of where their checks stand is the same
pub record StandAsOne (one other : Checker) : Type 0 where
  pub context : one.context ≡ other.context
  pub sampler : one.sampler ≡ other.sampler
  pub scopes : one.scopes.items ≡ other.scopes.items
  pub stage : one.stage ≡ other.stage
