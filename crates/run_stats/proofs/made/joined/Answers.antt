-- what comes of one batch more
use Rattle.std.proofs.Common.{◌≡◌, ◌+◌, ◌*◌, ◌∙◌, ◌∷◌, ◌++◌, [], ℕ, suc, List, Ok, Some, ap, append_assoc, arith, length, refl, slice_get, subst, sym}
use Rattle.std.proofs.lemmas.List.{append-nil, length-append}
use Rattle.std.proofs.Math.Nat.{suc-mul}
use Rattle.std.specs.Vec.Iter.{into_iter_items}
use Rattle.run_stats.proofs.MadeLemmas.{come_on, none_come_of}
use Rattle.run_stats.proofs.made.joined.Goals as goal
use Rattle.run_stats.specs.Runs.{ComeFrom}
use Rattle.runner.proofs.ColumnLemmas.{item_behind}
use Rattle.runner.proofs.TurnLemmas.{empty_of}

pub loop-batch-init : goal.loop-batch-init
loop-batch-init c = record {
  batches = refl;
  come = λ program settings number many are. none_come_of program settings number many c.new-all.result.items c.new-all.ensures.items;
}

pub loop-batch-preserved : goal.loop-batch-preserved
loop-batch-preserved c =
    let was = c.loop-batch.invariant in
    let steps = c.in-Some.ensures.steps in
    let rest = into_iter_items c.next.new.self in
    let at : ℕ = length c.loop-batch.yielded in
    let outcomes = c.in_ok-outcomes.outcomes in
    let one_more : length (c.loop-batch.yielded ++ c.in-Some.batch ∷ []) ≡ suc at =
    omega (arith, length-append c.loop-batch.yielded (c.in-Some.batch ∷ [])) in
    let stands : slice_get (into_iter_items c.into_iter-batch-iterator.result) at ≡ Some (Ok outcomes) =
    ap (λ (xs : List _). slice_get xs at) (sym was.batches)
    ∙ (ap (λ (xs : List _). slice_get (c.loop-batch.yielded ++ xs) at) steps.0
    ∙ (item_behind c.loop-batch.yielded rest c.in-Some.batch ∙ ap (λ batch. Some batch) c.in_ok-outcomes.was)) in
    record {
      batches = append_assoc c.loop-batch.yielded (c.in-Some.batch ∷ []) rest
          ∙ (ap (λ (xs : List _). c.loop-batch.yielded ++ xs) (sym steps.0) ∙ was.batches);
      come = λ program settings number many are.
          let more = come_on program settings number (at * many) many c.loop-batch.all.items outcomes.items (was.come program settings number many are)
          (are at outcomes stands) in
          subst (λ (n : ℕ). ComeFrom program settings number n c.append.new.self.items) (sym (ap (λ (n : ℕ). n * many) one_more ∙ suc-mul at many))
          (subst (ComeFrom program settings number (at * many + many)) (sym c.in_ok-append.ensures.items) more);
    }

pub returns : goal.returns
returns c = λ program settings number many are.
    let was = c.loop-batch.invariant in
    let gives = c.into_iter-batch-iterator.ensures.into_iter_gives in
    let none : into_iter_items c.loop-batch.batch-iterator ≡ [] =
    empty_of (into_iter_items c.loop-batch.batch-iterator)
    (let over = c.in-None.ensures.steps.0 in omega (arith, over, c.loop-batch.batch-iterator.rest.ok.0)) in
    let all : c.loop-batch.yielded ≡ c.args.batches.items =
    sym (append-nil c.loop-batch.yielded)
    ∙ (ap (λ (xs : List _). c.loop-batch.yielded ++ xs) (sym none) ∙ (was.batches ∙ gives.0)) in
    subst (λ (n : ℕ). ComeFrom program settings number (n * many) c.loop-batch.all.items) (ap (λ (xs : List _). length xs) all)
    (was.come program settings number many (λ at batch is. are at batch (ap (λ (xs : List _). slice_get xs at) (sym gives.0) ∙ is)))
