-- one task more
use Rattle.std.proofs.Common.{◌≡◌, ◌∙◌, [], ℕ, suc, List, Some, ap, arith, length, map, slice_get, subst, sym}
use Rattle.std.proofs.lemmas.List.{length-map}
use Rattle.std.specs.Vec.Iter.{into_iter_items}
use Rattle.litmus_step.proofs.FirstLemmas.{each_push}
use Rattle.runner.proofs.BatchLemmas.{some_same}
use Rattle.runner.proofs.first.task_starts.Goals as goal
use Rattle.runner.specs.Starts.{HoldsStarts}
use Rattle.runner.specs.declared.first.TaskStart.{TaskStart}
use Rattle.runner.specs.declared.first.TaskStarts.{TaskStarts}

pub loop-starts-init : goal.loop-starts-init
loop-starts-init c = record {
  made = omega (arith, c.in_ok-all.ensures.len);
  room = omega (arith, c.in_ok-all.ensures.capacity, c.len.ensures, c.into_iter-starts-iterator.ensures.into_iter_gives.1);
  rest = λ at column is. subst (λ (n : ℕ). slice_get (map (λ starts. starts.items) (into_iter_items c.into_iter-starts-iterator.result)) n ≡ Some column)
      (omega (arith, c.in_ok-all.ensures.len)) is;
  each = λ task it is column is_column. absurd (let none : slice_get [] task ≡ Some it =
      ap (λ (xs : List TaskStarts). slice_get xs task) (sym c.in_ok-all.ensures.items) ∙ is in cc);
}

pub loop-starts-preserved : goal.loop-starts-preserved
loop-starts-preserved c =
    let was = c.loop-starts.invariant in
    let steps = c.in-Some.ensures.steps in
    let pushed = c.push_reserved.ensures in
    let all = map (λ starts. starts.items) (into_iter_items c.into_iter-starts-iterator.result) in
    let done : ℕ = length c.loop-starts.all.items in
    let mine : slice_get all done ≡ Some c.in-Some.starts.items =
    subst (λ (n : ℕ). slice_get all n ≡ Some c.in-Some.starts.items) (omega (arith, c.loop-starts.all.ok.0))
    (was.rest 0 c.in-Some.starts.items (ap (λ (xs : List _). slice_get (map (λ starts. starts.items) xs) 0) steps.0)) in
    let it : TaskStarts = record { number = c.len-in-loop-starts-2.result; starts = c.in-Some.starts; outcomes = c.in_ok-outcomes.outcomes } in
    record {
      made = omega (arith, was.made, steps.1, pushed.len);
      room = omega (arith, was.room, pushed.capacity);
      rest = λ at column is. subst (λ (n : ℕ). slice_get all n ≡ Some column) (omega (arith, pushed.len))
          (was.rest (suc at) column (ap (λ (xs : List _). slice_get (map (λ starts. starts.items) xs) (suc at)) steps.0 ∙ is));
      each = subst (λ (done : List TaskStarts). (task : ℕ) (it : TaskStarts) → slice_get done task ≡ Some it
          → (column : List TaskStart) → slice_get all task ≡ Some column → HoldsStarts task column it) (sym pushed.items)
          (each_push (λ task it. (column : List TaskStart) → slice_get all task ≡ Some column → HoldsStarts task column it) c.loop-starts.all.items it was.each
          (λ column is. record {
            number = omega (arith, c.len-in-loop-starts-2.ensures, c.loop-starts.all.ok.0);
            starts = some_same c.in-Some.starts.items column (sym mine ∙ is);
            none = c.in_ok-outcomes.ensures.items;
            room = omega (arith, c.in_ok-outcomes.ensures.capacity, c.len-in-loop-starts.ensures, c.in-Some.starts.ok.0);
          }));
    }

pub returns : goal.returns
returns c =
    let was = c.loop-starts.invariant in
    let gives = c.into_iter-starts-iterator.ensures.into_iter_gives in
    record {
      many =
          let long = length-map c.args.columns.items (λ column. column.items) in
          omega (arith, was.made, c.in-None.ensures.steps.0, gives.1, long, c.args.columns.ok.0, c.loop-starts.all.ok.0);
      each = λ task column it is_column is. was.each task it is column
          (ap (λ (xs : List _). slice_get (map (λ starts. starts.items) xs) task) gives.0 ∙ is_column);
    }
