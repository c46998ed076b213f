-- The records are read one by one, by what the machine says of those so far.
use Rattle.std.proofs.Common.{◌∙◌, arith, length, refl}
use Rattle.slot_table.specs.declared.step.Answer.TheVariants.{Done}
use Rattle.slot_table.specs.declared.step.Step.TheVariants.{Clock}
use Rattle.oracle_steps.proofs.oracle_accesses.ReadingLemmas.{all_read, one_more, over_whole, other_step, step_missing, step_too_many, stuck_here}
use Rattle.oracle_steps.proofs.oracle_accesses.reading.read_on.Goals as goal

pub returns-then-stuck : goal.returns-then-stuck
returns-then-stuck c = λ s text own placed limits leads.
    let here = c.loop-latest.invariant s text own placed limits leads in
    stuck_here s (length text.registers) text.body c.args.records.now c.loop-latest.latest-index
    ((c.stuck.ensures.records s (length text.registers) text.body _ here.0 here.1 limits.body.scopes limits.rises).0 c.if-stuck.true)

pub returns-in_default : goal.returns-in_default
returns-in_default c = λ s text own placed limits leads.
    let here = c.loop-latest.invariant s text own placed limits leads in
    step_too_many s (length text.registers) text.body c.args.records.now c.loop-latest.latest-index
    (record { task = 0; step = Clock; answer = Done }) c.loop-latest-test.true c.law_one_telling.ensures.whole
    (over_whole s (length text.registers) text.body _ c.stuck.result
    (c.stuck.ensures.records s (length text.registers) text.body _ here.0 here.1 limits.body.scopes limits.rises) c.if-stuck.false
    ((c.next.ensures.over s (length text.registers) text.body _ here.0 here.1 limits.body.scopes limits.rises).0 (rw c.in_default.is refl)))

pub returns-then-not-is_made : goal.returns-then-not-is_made
returns-then-not-is_made c = λ s text own placed limits leads.
    let here = c.loop-latest.invariant s text own placed limits leads in
    other_step s (length text.registers) text.body c.args.records.now c.loop-latest.latest-index _ c.loop-latest-test.true c.args.task c.in-Some.step
    c.is_made.result own c.is_made.ensures (c.in-Some.ensures.only s (length text.registers) text.body _ here.0) c.if-not-is_made.true

pub loop-latest-preserved : goal.loop-latest-preserved
loop-latest-preserved c = λ s text own placed limits leads.
    let here = c.loop-latest.invariant s text own placed limits leads in
    let only = c.in-Some.ensures.only s (length text.registers) text.body _ here.0 in
    one_more s text c.args.records.now c.loop-latest.latest-index _ c.loop-latest-test.true c.args.task c.in-Some.step c.is_made.result own c.is_made.ensures
    c.if-not-is_made.false c.law_an_answer_leads_on.ensures.next placed limits only here.1 c.answer.new.self
    (c.answer.ensures.leads s (length text.registers) text.body _ c.in-Some.step here.0 c.in-Some.ensures.says)

pub returns-then-stuck-2 : goal.returns-then-stuck-2
returns-then-stuck-2 c = λ s text own placed limits leads.
    let here = c.loop-latest.invariant s text own placed limits leads in
    stuck_here s (length text.registers) text.body c.args.records.now c.loop-latest.latest-index
    ((c.stuck-2.ensures.records s (length text.registers) text.body _ here.0 here.1 limits.body.scopes limits.rises).0 c.if-stuck-2.true)

pub returns-then-is_none : goal.returns-then-is_none
returns-then-is_none c = λ s text own placed limits leads.
    let here = all_read s (length text.registers) text.body c.args.records.now c.loop-latest.latest-index
    (omega (arith, c.loop-latest-test.false, c.loop-latest.auto.latest-index-end)) c.loop-latest.run (c.loop-latest.invariant s text own placed limits leads) in
    over_whole s (length text.registers) text.body _ c.stuck-2.result
    (c.stuck-2.ensures.records s (length text.registers) text.body _ here.0 here.1 limits.body.scopes limits.rises) c.if-stuck-2.false
    ((c.next-2.ensures.over s (length text.registers) text.body _ here.0 here.1 limits.body.scopes limits.rises).0 c.if-is_none.ensures)

pub returns : goal.returns
returns c = λ s text own placed limits leads.
    let here = all_read s (length text.registers) text.body c.args.records.now c.loop-latest.latest-index
    (omega (arith, c.loop-latest-test.false, c.loop-latest.auto.latest-index-end)) c.loop-latest.run (c.loop-latest.invariant s text own placed limits leads) in (
      here.1,
      step_missing s (length text.registers) text.body c.args.records.now c.next-2.result
          (c.next-2.ensures.only s (length text.registers) text.body _ here.0) (c.is_none.ensures ∙ rw c.if-is_none.false refl),
    )
