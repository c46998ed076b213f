-- one column more has its item
use Rattle.std.proofs.Common.{◌≡◌, ◌<◌, ◌∙◌, ◌∷◌, ◌++◌, [], ℕ, suc, List, Some, ap, arith, inl, inr, length, refl, set, slice_get, subst, sym, vec_capacity}
use Rattle.std.proofs.lemmas.Bool.Decides.{leb_tells}
use Rattle.std.proofs.lemmas.List.{length-set}
use Rattle.std.proofs.lemmas.Option.{slice_get_within, slice_get-get_or}
use Rattle.std.specs.Vec.Iter.{into_iter_items}
use Rattle.runner.proofs.ColumnLemmas.{same_some, set_here, set_there}
use Rattle.runner.proofs.columns.add_row.Goals as goal

pub loop-item-init : goal.loop-item-init
loop-item-init g c = record {
  made = omega arith;
  wide = refl;
  rest = λ k item is. subst (λ (n : ℕ). slice_get (into_iter_items c.into_iter-item-iterator.result) n ≡ Some item) (omega arith) is;
  added = λ k was column item below is_was is_item is. absurd (omega (arith, below));
  same = λ k within. refl;
}

pub index_mut-column-requires : goal.index_mut-column-requires
index_mut-column-requires g c =
    omega (
      arith,
      c.loop-item.invariant.made,
      c.loop-item.invariant.wide,
      c.in-Some.ensures.steps.1,
      c.into_iter-item-iterator.ensures.into_iter_gives.1,
      c.requires.wide,
      c.args.row.ok.0,
      c.loop-item.columns.ok.0,
    )

pub push_reserved-requires : goal.push_reserved-requires
push_reserved-requires g c =
    let was = c.loop-item.invariant in
    let below : c.loop-item.at < length c.loop-item.columns.items =
    omega (arith, was.made, was.wide, c.in-Some.ensures.steps.1, c.into_iter-item-iterator.ensures.into_iter_gives.1, c.requires.wide, c.args.row.ok.0) in
    c.requires.room c.loop-item.at c.index_mut-column.result.now
    (sym (was.same c.loop-item.at (omega arith))
    ∙ (slice_get-get_or c.loop-item.columns.items c.loop-item.at c.index_mut-column.result.now below
    ∙ ap (λ column. Some column) (sym c.index_mut-column.ensures.value)))

pub overflow_add-at : goal.overflow_add-at
overflow_add-at g c =
    let was = c.loop-item.invariant in
    record { fits = omega (arith, was.made, was.wide, c.in-Some.ensures.steps.1, c.into_iter-item-iterator.ensures.into_iter_gives.1, c.args.row.small) }

pub loop-item-preserved : goal.loop-item-preserved
loop-item-preserved g c =
    let was = c.loop-item.invariant in
    let steps = c.in-Some.ensures.steps in
    let pushed = c.push_reserved.ensures in
    let at : ℕ = c.loop-item.at in
    let columns = c.loop-item.columns.items in
    let all = into_iter_items c.into_iter-item-iterator.result in
    let below : at < length columns =
    omega (arith, was.made, was.wide, steps.1, c.into_iter-item-iterator.ensures.into_iter_gives.1, c.requires.wide, c.args.row.ok.0) in
    let stood : slice_get c.args.columns.now.items at ≡ Some c.index_mut-column.result.now =
    sym (was.same at (omega arith))
    ∙ (slice_get-get_or columns at c.index_mut-column.result.now below ∙ ap (λ column. Some column) (sym c.index_mut-column.ensures.value)) in
    let mine : slice_get all at ≡ Some c.in-Some.item =
    subst (λ (n : ℕ). slice_get all n ≡ Some c.in-Some.item) (omega arith)
    (was.rest 0 c.in-Some.item (ap (λ (xs : List _). slice_get xs 0) steps.0)) in
    record {
      made = omega (arith, was.made, steps.1);
      wide = length-set columns at c.push_reserved.new.self ∙ was.wide;
      rest = λ k item is. subst (λ (n : ℕ). slice_get all n ≡ Some item) (omega arith)
          (was.rest (suc k) item (ap (λ (xs : List _). slice_get xs (suc k)) steps.0 ∙ is));
      added = λ k old column item less is_old is_item is_column.
          elim (leb_tells at k) [
            | inl not_before ↦
                let here : k ≡ at = omega (arith, less, not_before.1) in
                let is_new : c.push_reserved.new.self ≡ column = same_some _ _
                (sym (set_here columns at c.push_reserved.new.self below) ∙ (ap (λ (n : ℕ). slice_get (set columns at c.push_reserved.new.self) n) (sym here) ∙ is_column)) in
                let is_it : c.index_mut-column.result.now ≡ old = same_some _ _ (sym stood ∙ (ap (λ (n : ℕ). slice_get c.args.columns.now.items n) (sym here) ∙ is_old)) in
                let is_mine : c.in-Some.item ≡ item = same_some _ _ (sym mine ∙ (ap (λ (n : ℕ). slice_get all n) (sym here) ∙ is_item)) in (
                  ap (λ column. column.items) (sym is_new) ∙ (pushed.items ∙ (ap (λ column. column.items ++ c.in-Some.item ∷ []) is_it ∙ ap (λ item. old.items ++ item ∷ []) is_mine)),
                  ap (λ column. vec_capacity column) (sym is_new) ∙ (pushed.capacity ∙ ap (λ column. vec_capacity column) is_it),
                )
            | inr before ↦
                let less_than : k < at = before.1 in
                was.added k old column item less_than is_old is_item
                (sym (set_there columns at k c.push_reserved.new.self (λ same. absurd (omega (arith, same, less_than)))) ∙ is_column)
          ];
      same = λ k after. set_there columns at k c.push_reserved.new.self (λ same. absurd (omega (arith, same, after))) ∙ was.same k (omega (arith, after));
    }

pub returns-clause-wide : goal.returns-clause-wide
returns-clause-wide g c = c.loop-item.invariant.wide

pub returns-clause-added : goal.returns-clause-added
returns-clause-added g c = λ at was column item is_was is_item is_column.
    let gives = c.into_iter-item-iterator.ensures.into_iter_gives in
    c.loop-item.invariant.added at was column item
    (let within = slice_get_within c.args.row.items at item is_item in
    omega (arith, within, c.loop-item.invariant.made, c.in-None.ensures.steps.0, gives.1, c.args.row.ok.0))
    is_was (ap (λ (xs : List _). slice_get xs at) gives.0 ∙ is_item) is_column
