-- by the item of the turn
use Rattle.std.proofs.Common.{◌∙◌, arith, length, sym}
use Rattle.std.proofs.lemmas.Bool.{eqb-true, false≢true}
use Rattle.diagnostics.specs.option_diagnostics.Item.{items_of}
use Rattle.diagnostics.specs.option_diagnostics.Schedules.{Reads}
use Rattle.diagnostics.proofs.option_diagnostics.ItemLemmas.{item_at, one_more, stands_within}
use Rattle.diagnostics.proofs.option_diagnostics.ScheduleLemmas.{entry_is_read}
use Rattle.diagnostics.proofs.option_diagnostics.schedules.schedule_fault.Goals as goal

pub returns-then-not-branch-clause-found : goal.returns-then-not-branch-clause-found
returns-then-not-branch-clause-found c = record {
  number = c.loop-number.number;
  item = _;
  stands = item_at _ _ (items_of c.args.text.now) c.loop-number.number _ c.deref-item-items.ensures.value c.in_ok-items.ensures (omega arith);
  refused = λ entry spelled. false≢true (sym c.if-not-branch.true ∙ c.in_ok-reads.ensures.no (entry_is_read _ entry spelled));
  before = c.loop-number.invariant;
  is = c.in_ok-line.ensures;
}

pub loop-number-preserved : goal.loop-number-preserved
loop-number-preserved c =
    one_more Reads (items_of c.args.text.now) c.loop-number.number _
    (item_at _ _ (items_of c.args.text.now) c.loop-number.number _ c.deref-item-items.ensures.value c.in_ok-items.ensures (omega arith))
    (c.in_ok-reads.ensures.yes c.if-not-branch.false) c.loop-number.invariant

pub returns-clause-none : goal.returns-clause-none
returns-clause-none c = λ some number item stands.
    let within = stands_within _ _ (items_of c.args.text.now) number item c.deref-item-items.ensures.value c.in_ok-items.ensures stands in
    c.loop-number.invariant number item (omega (arith, within)) stands

pub returns-then-is_empty-clause-none : goal.returns-then-is_empty-clause-none
returns-then-is_empty-clause-none c = λ some.
    absurd (omega (arith, some, eqb-true (length c.args.text.now) 0 (sym c.is_empty.ensures ∙ c.if-is_empty.true)))
