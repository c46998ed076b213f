-- The sites of earlier numbers are added.
use Rattle.std.proofs.Common.{◌<◌}
use Rattle.races.specs.Lists.{AddsInOrder}
use Rattle.races.specs.Placed.{IsSiteOf, PlacedBefore}
use Rattle.races.proofs.placed.add_sites.Given as goal

abbrev pub invariant-loop-number : goal.invariant-loop-number
invariant-loop-number l =
    AddsInOrder PlacedBefore l.initial.found.items l.found.items (λ placed. (placed.name.site < l.number) × IsSiteOf l.task l.sites placed)
