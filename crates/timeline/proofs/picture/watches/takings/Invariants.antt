-- the takings so far
use Rattle.std.proofs.Common.{List, take}
use Rattle.std.specs.List.{AllByRecursion, AllZip}
use Rattle.access_types.specs.Stamped.{Stamped}
use Rattle.timeline.specs.picture.Named.{AreNamed}
use Rattle.timeline.specs.picture.Sound.{TakeHolds}
use Rattle.timeline.specs.picture.Watches.{IsTakingOf}
use Rattle.timeline.proofs.picture.watches.takings.Given as goal

abbrev pub invariant-loop-take : goal.invariant-loop-take
invariant-loop-take l = (accesses : List Stamped) → AreNamed accesses l.named → AllByRecursion (TakeHolds accesses) l.takes
    → AllZip (IsTakingOf accesses) (take l.take-index l.takes) l.takings.items
