-- How lists that are in order grow.
use Rattle.std.specs.Prelude.{◌⊎◌, AllPairs, Contains, List}

-- the new list is in order, and has what the old one has, these, and nothing else
pub record AddsInOrder {A : Type 0} (Before : A → A → Type 0) (old new : List A) (These : A → Type 0) : Type 0 where
  pub kept : (x : A) → Contains old x → Contains new x
  pub added : (x : A) → These x → Contains new x
  pub each : (x : A) → Contains new x → Contains old x ⊎ These x
  pub order : AllPairs Before new
