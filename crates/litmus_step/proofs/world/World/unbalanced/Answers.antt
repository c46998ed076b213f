-- Those of one task more are added.
use Rattle.std.proofs.Common.{◌≡◌, ◌∙◌, List, Some, ap, arith, length, refl, slice_get, subst, sym}
use Rattle.std.proofs.lemmas.Option.{slice_get_read}
use Rattle.litmus_step.proofs.ReaderLemmas.{unbalanced_more}
use Rattle.litmus_step.proofs.world.World.unbalanced.Goals as goal
use Rattle.log_correctness.specs.Totals.{unbalanced_below}
use Rattle.task_run.specs.declared.run.TaskRun.{TaskRun}

pub loop-run-preserved : goal.loop-run-preserved
loop-run-preserved c = λ run records leads.
    let machines = c.deref-run-items.result.now in
    let at = c.loop-run.run-index in
    let stands = subst (λ (all : List TaskRun). slice_get all at ≡ Some c.run-item.result) c.deref-run-items.ensures.value
    (slice_get_read machines (length machines) at c.run-item.result refl c.loop-run-test.true c.run-item.is) in
    let led = leads.tasks.each at c.run-item.result stands in
    let same = c.law_machines_stand_where_the_list_does.ensures.unbalanced run records leads.list at c.run-item.result leads.can.limits led in
    unbalanced_more run records leads.list at c.loop-run.unbalanced c.unbalanced.result c.saturating_add-unbalanced.result
    (c.loop-run.invariant run records leads) (rw (sym same) (c.unbalanced.ensures _ _ _ _ led (leads.list.tasks at).more))
    c.saturating_add-unbalanced.ensures

pub returns : goal.returns
returns c = λ run records leads.
    let over : c.loop-run.run-index ≡ length c.deref-run-items.result.now =
    omega (arith, c.loop-run-test.false, c.loop-run.auto.run-index-end) in
    subst (λ n. c.loop-run.unbalanced ≡ unbalanced_below leads.list n)
    (over ∙ ap length c.deref-run-items.ensures.value ∙ leads.tasks.all) (c.loop-run.invariant run records leads)
