-- The pairs of earlier sites are added.
use Rattle.std.proofs.Common.{◌<◌, []}
use Rattle.races.specs.Lists.{AddsInOrder}
use Rattle.races.specs.Placed.{ComesBefore, IsPairAmong}
use Rattle.races.proofs.conflicts.add_pairs.Given as goal

abbrev pub invariant-loop-first : goal.invariant-loop-first
invariant-loop-first l =
    AddsInOrder ComesBefore [] l.pairs.items (λ pair. (of : IsPairAmong l.sites pair) × (of.place < l.first-index))
