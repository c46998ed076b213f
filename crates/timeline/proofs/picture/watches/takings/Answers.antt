-- one taking more
use Rattle.std.proofs.Common.{arith, refl, subst}
use Rattle.trace_replay.specs.Accesses.{IsNamed}
use Rattle.timeline.specs.picture.Watches.{IsTakingOf}
use Rattle.timeline.proofs.picture.Zips.{zip_item}
use Rattle.timeline.proofs.picture.watches.takings.Goals as goal

pub loop-take-preserved : goal.loop-take-preserved
loop-take-preserved c = λ accesses named holds. rw c.in_ok-push.ensures.items
    (zip_item (IsTakingOf accesses) c.args.takes.now c.loop-take.takings.items c.loop-take.take-index c.take-item.result _ (omega arith)
    c.take-item.is (c.loop-take.invariant accesses named holds)
    (record {
      take_is = refl;
      finder_is = subst (λ t. IsNamed accesses t c.the.result) c.finder.ensures (c.the.ensures accesses named);
      setter_is = subst (λ t. IsNamed accesses t c.the-in-loop-take.result) c.setter.ensures (c.the-in-loop-take.ensures accesses named);
    }))
