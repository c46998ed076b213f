-- The pairs with earlier sites are added.
use Rattle.std.proofs.Common.{◌<◌}
use Rattle.races.specs.Lists.{AddsInOrder}
use Rattle.races.specs.Placed.{ComesBefore, IsPairWith}
use Rattle.races.proofs.conflicts.add_pairs_with.Given as goal

abbrev pub invariant-loop-second : goal.invariant-loop-second
invariant-loop-second l =
    AddsInOrder ComesBefore l.initial.pairs.items l.pairs.items (λ pair. (of : IsPairWith l.first l.sites pair) × (of.place < l.second-index))
