-- The sites of earlier tasks are added.
use Rattle.std.proofs.Common.{◌<◌, [], map}
use Rattle.litmus_semantics.specs.TextSites.{bytes_among}
use Rattle.litmus_syntax.specs.Views.{task_of}
use Rattle.races.specs.Lists.{AddsInOrder}
use Rattle.races.specs.Placed.{IsSiteBy, PlacedBefore}
use Rattle.races.proofs.placed.add_tasks.Given as goal

abbrev pub invariant-loop-number : goal.invariant-loop-number
invariant-loop-number l =
    AddsInOrder PlacedBefore [] l.found.items (λ placed. (placed.name.task < l.number) × IsSiteBy (bytes_among l.bytes) (map task_of l.tasks) placed)
