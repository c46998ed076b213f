-- One part more is in order, and the next number is that of one that is left.
use Rattle.std.proofs.Common.{◌+◌, arith}
use Rattle.part_search.proofs.Ordered.{all_in_order, next_is_left, one_more}
use Rattle.part_search.proofs.order.in_order.Goals as goal

pub loop-before-preserved : goal.loop-before-preserved
loop-before-preserved c =
    one_more c.args.parts.items c.loop-before.ordered.items c.loop-before.parts.items c.loop-before.before c.loop-before.invariant.0
    c.loop-before.invariant.1 _ _ c.in-Some.part c.in_ok-push.ensures.items c.in-Some.ensures.0 c.in-Some.ensures.1

pub unreachable-requires : goal.unreachable-requires
unreachable-requires c =
    next_is_left c.args.parts.items c.loop-before.ordered.items c.loop-before.parts.items c.loop-before.before c.loop-before.invariant.0
    c.loop-before.invariant.1 (c.requires (c.loop-before.before + 1) (omega arith) (omega arith)) c.in_default.ensures

pub returns : goal.returns
returns c =
    all_in_order c.args.parts.items c.loop-before.ordered.items c.loop-before.parts.items c.loop-before.before c.loop-before.invariant.0
    c.loop-before.invariant.1 c.args.count (omega arith)
