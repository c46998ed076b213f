-- one watchpoint more
use Rattle.std.proofs.Common.{arith, refl, subst}
use Rattle.trace_replay.specs.Accesses.{IsNamed}
use Rattle.timeline.specs.picture.Watches.{IsFinderOf, IsWatchOf}
use Rattle.timeline.proofs.picture.Zips.{zip_item}
use Rattle.timeline.proofs.picture.watches.watches.Goals as goal

pub loop-arm-preserved : goal.loop-arm-preserved
loop-arm-preserved c = λ accesses named holds. rw c.in_ok-push.ensures.items
    (zip_item (IsWatchOf accesses) c.args.arms.now c.loop-arm.watches.items c.loop-arm.arm-index c.arm-item.result _ (omega arith) c.arm-item.is
    (c.loop-arm.invariant accesses named holds)
    (record {
      arm_is = refl;
      setter_is = subst (λ t. IsNamed accesses t c.the.result) c.setter.ensures (c.the.ensures accesses named);
      finder_is = subst (λ end. IsFinderOf accesses end c.finder.result) c.outcome.ensures (c.finder.ensures accesses named);
    }))
