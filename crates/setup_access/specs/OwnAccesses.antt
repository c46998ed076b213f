-- Each access that a task checks is its own, within the limits, and without a mask of no bits.
use Rattle.std.specs.Prelude.{◌≡◌, ◌≢◌, List, [], ◌∷◌, Some}
use Rattle.access_types.specs.Access.{Access, IsInLimits}
use Rattle.setup_access.specs.Setting.{Setting}
use Rattle.setup_access.specs.declared.begun.Begun.{Begun}

-- the access is one of the task: that it has bytes is in the type of an access that has begun
pub record IsOwn (s : Setting) (a : Access) : Type 0 where
  pub task : a.task ≡ s.task
  pub in_limits : IsInLimits a
  -- a mask without a bit is no mask
  pub mask : a.mask ≢ Some 0

-- so is each of these scoped assertions
abbrev pub AreOwn : Setting → List Begun → Type 0
AreOwn s [] = Unit {0}
AreOwn s (scope ∷ scopes) = IsOwn s scope.access × AreOwn s scopes
