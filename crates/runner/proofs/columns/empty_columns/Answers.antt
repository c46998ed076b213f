-- one empty column more
use Rattle.std.proofs.Common.{◌≡◌, ◌≤◌, ◌∙◌, [], ℕ, List, Some, ap, arith, slice_get, subst, sym, vec_capacity}
use Rattle.litmus_step.proofs.FirstLemmas.{each_push}
use Rattle.runner.proofs.columns.empty_columns.Goals as goal

pub loop-init : goal.loop-init
loop-init g c = record {
  made = omega (arith, c.in_ok-columns.ensures.len);
  room = omega (arith, c.in_ok-columns.ensures.capacity);
  empty = λ at column is. absurd (let none : slice_get [] at ≡ Some column = ap (λ (xs : List _). slice_get xs at) (sym c.in_ok-columns.ensures.items) ∙ is in cc);
}

pub push_reserved-requires : goal.push_reserved-requires
push_reserved-requires g c = omega (arith, c.loop.invariant.made, c.loop.invariant.room, c.loop-test.true)

pub loop-preserved : goal.loop-preserved
loop-preserved g c =
    let was = c.loop.invariant in
    let pushed = c.push_reserved.ensures in
    record {
      made = omega (arith, was.made, pushed.len);
      room = omega (arith, was.room, pushed.capacity);
      empty = subst (λ (all : List _). (at : ℕ) (column : _) → slice_get all at ≡ Some column → (column.items ≡ []) × (c.args.height ≤ vec_capacity column))
          (sym pushed.items)
          (each_push (λ at column. (column.items ≡ []) × (c.args.height ≤ vec_capacity column)) c.loop.columns.items c.in_ok-with_capacity.field-0 was.empty
          (c.in_ok-with_capacity.ensures.items, omega (arith, c.in_ok-with_capacity.ensures.capacity)));
    }

pub returns-clause-wide : goal.returns-clause-wide
returns-clause-wide g c = omega (arith, c.loop.invariant.made, c.loop-test.false, c.loop.auto.counter-end, c.loop.columns.ok.0)
