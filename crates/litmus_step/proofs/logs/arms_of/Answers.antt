-- Those of one task more follow.
use Rattle.std.proofs.Common.{◌≡◌, ◌∙◌, arith, length, refl, subst}
use Rattle.std.proofs.lemmas.Option.{slice_get_read}
use Rattle.litmus_step.proofs.ReaderLemmas.{by_one_more}
use Rattle.litmus_step.proofs.logs.arms_of.Goals as goal
use Rattle.log_correctness.specs.Lists.{AreArmsOf, ByTask}

pub loop-log-preserved : goal.loop-log-preserved
loop-log-preserved c = λ run records list limits logs.
    let all = c.args.logs.now in
    let stands = slice_get_read all (length all) c.loop-log.log-index c.log-item.result refl c.loop-log-test.true c.log-item.is in
    let own = c.law_logs_give_what_the_list_has.ensures.arms run records list c.loop-log.log-index c.log-item.result _ limits
    (logs.each c.loop-log.log-index c.log-item.result stands) c.arms.ensures in
    by_one_more (AreArmsOf list) c.loop-log.log-index c.loop-log.all.items _ c.extend_from_slice.new.self.items
    (c.loop-log.invariant run records list limits logs) own c.in_ok-extend_from_slice.ensures.items

pub returns : goal.returns
returns c = λ run records list limits logs.
    let over : c.loop-log.log-index ≡ length c.args.logs.now = omega (arith, c.loop-log-test.false, c.loop-log.auto.log-index-end) in
    subst (λ n. ByTask (AreArmsOf list) n c.loop-log.all.items) (over ∙ logs.all) (c.loop-log.invariant run records list limits logs)
