-- No site so far has the name.
use Rattle.std.proofs.Common.{◌≡◌, ◌<◌, ℕ, Some, slice_get}
use Rattle.races.specs.declared.placed.PlacedSite.{PlacedSite}
use Rattle.race_output.proofs.sites.site_named.Given as goal

abbrev pub invariant-loop-placed : goal.invariant-loop-placed
invariant-loop-placed l =
    (k : ℕ) (placed : PlacedSite) → k < l.placed-index → slice_get l.sites k ≡ Some placed → placed.name ≡ l.name → ⊥
