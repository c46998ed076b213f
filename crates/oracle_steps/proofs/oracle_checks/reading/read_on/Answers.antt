-- The records are read one by one, by what the checker says of those so far.
use Rattle.std.proofs.Common.{◌≡◌, ◌∙◌, arith, false, refl, sym, true}
use Rattle.slot_table.specs.declared.step.Answer.TheVariants.{Done}
use Rattle.slot_table.specs.declared.step.Step.TheVariants.{Clock}
use Rattle.oracle_steps.proofs.oracle_checks.ReadingLemmas.{all_read, goes_on, nothing_missing, other_step, step_missing, step_too_many, stuck_here}
use Rattle.oracle_steps.proofs.oracle_checks.reading.read_on.Goals as goal

pub returns-then-stuck : goal.returns-then-stuck
returns-then-stuck c = λ s scopes doing asked sites task leads.
    let here = c.loop-latest.invariant s scopes doing asked sites task leads in
    stuck_here s scopes doing asked c.args.records.now c.loop-latest.latest-index ((c.stuck.ensures.records s scopes doing asked _ here).0 c.if-stuck.true)

pub returns-in_default : goal.returns-in_default
returns-in_default c = λ s scopes doing asked sites task leads.
    let here = c.loop-latest.invariant s scopes doing asked sites task leads in
    step_too_many s scopes doing asked c.args.records.now c.loop-latest.latest-index (record { task = 0; step = Clock; answer = Done }) c.loop-latest-test.true c.loop-latest.checker
    (c.next.ensures.complete s scopes doing asked _ here) ((c.next.ensures.none s scopes doing asked _ here).0 (rw c.in_default.is refl))
    (goes_on s scopes doing asked c.args.records.now c.loop-latest.latest-index c.stuck.result (c.stuck.ensures.records s scopes doing asked _ here) c.if-stuck.false)

pub returns-then-not-is_made : goal.returns-then-not-is_made
returns-then-not-is_made c = λ s scopes doing asked sites task leads.
    let here = c.loop-latest.invariant s scopes doing asked sites task leads in
    other_step s scopes doing asked c.args.records.now c.loop-latest.latest-index _ c.loop-latest-test.true c.args.task c.in-Some.step c.is_made.result task c.is_made.ensures
    (c.in-Some.ensures.only s scopes doing asked _ here) c.if-not-is_made.true

pub returns-then-stuck-2 : goal.returns-then-stuck-2
returns-then-stuck-2 c = λ s scopes doing asked sites task leads.
    let here = c.loop-latest.invariant s scopes doing asked sites task leads in
    stuck_here s scopes doing asked c.args.records.now c.loop-latest.latest-index ((c.stuck-2.ensures.records s scopes doing asked _ here).0 c.if-stuck-2.true)

pub returns-then-is_none : goal.returns-then-is_none
returns-then-is_none c = λ s scopes doing asked sites task leads.
    let here = all_read s scopes doing asked c.args.records.now c.loop-latest.latest-index
    (omega (arith, c.loop-latest-test.false, c.loop-latest.auto.latest-index-end)) c.loop-latest.checker (c.loop-latest.invariant s scopes doing asked sites task leads) in
    nothing_missing s scopes doing asked c.args.records.now c.loop-latest.checker ((c.next-2.ensures.none s scopes doing asked _ here).0 c.if-is_none.ensures)
    (λ stuck. let both : false ≡ true = sym c.if-stuck-2.false ∙ (c.stuck-2.ensures.records s scopes doing asked _ here).1 stuck in cc)
    (c.next-2.ensures.complete s scopes doing asked _ here)

pub returns-else-is_none : goal.returns-else-is_none
returns-else-is_none c = λ s scopes doing asked sites task leads.
    let here = all_read s scopes doing asked c.args.records.now c.loop-latest.latest-index
    (omega (arith, c.loop-latest-test.false, c.loop-latest.auto.latest-index-end)) c.loop-latest.checker (c.loop-latest.invariant s scopes doing asked sites task leads) in
    step_missing s scopes doing asked c.args.records.now c.next-2.result (c.next-2.ensures.only s scopes doing asked _ here) (c.is_none.ensures ∙ rw c.if-is_none.false refl)
