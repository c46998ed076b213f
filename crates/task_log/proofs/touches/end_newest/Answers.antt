use Rattle.std.proofs.Common.{◌≡◌, ◌∙◌, ◌-◌, ◌<◌, ap, arith, length, refl, subst, true}
use Rattle.std.proofs.lemmas.List.{get_or_default}
use Rattle.task_log.specs.declared.touches.Touch.{Touch}
use Rattle.std.proofs.Math.Bool.{not}
use Rattle.task_log.specs.Touches.{end_newest, goes_on}
use Rattle.task_log.proofs.TouchLemmas.{ended_from, ends_newest, ends_none}
use Rattle.task_log.proofs.touches.end_newest.Goals as goal

pub loop-left-init : goal.loop-left-init
loop-left-init c = record {
  same = refl;
  within = omega arith;
  ended = λ k d from within. absurd (omega
      arith);
}

pub returns-then-is_none : goal.returns-then-is_none
returns-then-is_none c =
    let within : c.loop-left.left - 1 < length c.loop-left.touches = omega arith in
    let here = subst (λ (t : Touch). goes_on t ≡ true)
    (get_or_default c.loop-left.touches (c.loop-left.left - 1) c.index-touches-left.result
    c.index-touches-left-then-is_none.result within)
    (ap not (c.is_none.ensures ∙ ap not c.if-is_none.true)) in
    ends_newest c.loop-left.touches (c.loop-left.left - 1) c.index-touches-left-then-is_none.result
    c.args.stamp within here
    (λ k e after inside. c.loop-left.invariant.ended k e (omega arith) inside)
    ∙ ap (end_newest c.args.stamp) c.loop-left.invariant.same

pub loop-left-preserved : goal.loop-left-preserved
loop-left-preserved c = record {
  same = c.loop-left.invariant.same;
  within = omega arith;
  ended = ended_from c.loop-left.touches (c.loop-left.left - 1) c.loop-left.left c.index-touches-left.result
      (omega arith) c.loop-left.invariant.ended
      (omega arith) (ap not (c.is_none.ensures ∙ ap not c.if-is_none.false));
}

pub returns : goal.returns
returns c =
    ends_none c.loop-left.touches c.args.stamp (λ k d within. c.loop-left.invariant.ended k d (omega arith)
    within)
    ∙ ap (end_newest c.args.stamp) c.loop-left.invariant.same
