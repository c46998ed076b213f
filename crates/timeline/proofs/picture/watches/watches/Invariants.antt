-- the watchpoints of the arms so far
use Rattle.std.proofs.Common.{List, take}
use Rattle.std.specs.List.{AllByRecursion, AllZip}
use Rattle.access_types.specs.Stamped.{Stamped}
use Rattle.timeline.specs.picture.Named.{AreNamed}
use Rattle.timeline.specs.picture.Sound.{ArmHolds}
use Rattle.timeline.specs.picture.Watches.{IsWatchOf}
use Rattle.timeline.proofs.picture.watches.watches.Given as goal

abbrev pub invariant-loop-arm : goal.invariant-loop-arm
invariant-loop-arm l = (accesses : List Stamped) → AreNamed accesses l.named → AllByRecursion (ArmHolds accesses) l.arms
    → AllZip (IsWatchOf accesses) (take l.arm-index l.arms) l.watches.items
