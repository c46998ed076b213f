-- Those of one task more follow.
use Rattle.std.proofs.Common.{◌≡◌, ◌∙◌, arith, length, refl, subst, sym}
use Rattle.std.proofs.lemmas.Option.{slice_get_read}
use Rattle.litmus_step.proofs.ReaderLemmas.{by_one_more}
use Rattle.litmus_step.proofs.logs.accesses_of.Goals as goal
use Rattle.log_correctness.specs.Lists.{AreAccessesOf, ByTask}

pub loop-log-preserved : goal.loop-log-preserved
loop-log-preserved c = λ run records list limits logs.
    let all = c.args.logs.now in
    let stands = slice_get_read all (length all) c.loop-log.log-index c.log-item.result refl c.loop-log-test.true c.log-item.is in
    let own = c.law_logs_give_what_the_list_has.ensures.accesses run records list c.loop-log.log-index c.log-item.result _ limits
    (logs.each c.loop-log.log-index c.log-item.result stands) c.in_ok-accesses.ensures in
    by_one_more (AreAccessesOf list) c.loop-log.log-index c.loop-log.all.items c.as_slice.result.now c.extend_from_slice.new.self.items
    (c.loop-log.invariant run records list limits logs)
    (subst (AreAccessesOf list c.loop-log.log-index) (sym c.as_slice.ensures.value) own) c.in_ok-extend_from_slice.ensures.items

pub returns : goal.returns
returns c = λ run records list limits logs.
    let over : c.loop-log.log-index ≡ length c.args.logs.now = omega (arith, c.loop-log-test.false, c.loop-log.auto.log-index-end) in
    subst (λ n. ByTask (AreAccessesOf list) n c.loop-log.all.items) (over ∙ logs.all) (c.loop-log.invariant run records list limits logs)
