-- By what comes of each task.
use Rattle.std.proofs.Common.{◌≡◌, ◌⊎◌, ◌<◌, ◌∙◌, ℕ, suc, Err, List, Ok, Result, Some, ap, arith, length, slice_get, subst, sym}
use Rattle.std.proofs.lemmas.Result.{err_from_is_err_and}
use Rattle.std.specs.Vec.Iter.{into_iter_items}
use Rattle.litmus_step.proofs.FirstLemmas.{each_push}
use Rattle.runner.proofs.OutcomeLemmas.{all_are_found, err_holds, is_failed_wait, named_at, refused_so, same_error, through_below}
use Rattle.runner.proofs.together.all_found.Goals as goal
use Rattle.prepared_program.specs.declared.program_sites.error.RunError.{RunError}
use Rattle.prepared_program.specs.declared.program_sites.error.RunError.TheVariants.{OutOfMemory, Stuck}
use Rattle.runner.specs.declared.seated.TaskResult.{TaskResult}

stands : (c : goal.After-drop-found) → slice_get c.args.outcomes.items (length c.loop-outcome.found.items) ≡ Some (Err c.in_err-outcome.field-0.0)
stands c =
    let items = into_iter_items c.into_iter-outcome-iterator.result in
    ap (λ (xs : List (Result TaskResult RunError)). slice_get xs (length c.loop-outcome.found.items)) (sym c.into_iter-outcome-iterator.ensures.into_iter_gives.0)
    ∙ (subst (λ (n : ℕ). slice_get items n ≡ Some c.in-Some.outcome) (omega (arith, c.loop-outcome.found.ok.0))
    (c.loop-outcome.invariant.rest 0 c.in-Some.outcome (ap (λ (xs : List (Result TaskResult RunError)). slice_get xs 0) c.in-Some.ensures.steps.0))
    ∙ ap (λ (o : Result TaskResult RunError). Some o) c.in_err-outcome.was)

pub returns-in_err-outcome-clause-stuck : goal.returns-in_err-outcome-clause-stuck
returns-in_err-outcome-clause-stuck c = λ run opened task are is.
    let p = err_from_is_err_and c.from_residual-in_err-outcome.result c.from_residual-in_err-outcome.ensures.1 in
    let named = sym p.2 ∙ same_error c.from_residual-in_err-outcome.result _ _ p.1 is in
    is_failed_wait run opened c.args.outcomes.items are (length c.loop-outcome.found.items) c.in_err-outcome.field-0.0 task (stands c) named

pub returns-in_err-outcome-clause-smallest : goal.returns-in_err-outcome-clause-smallest
returns-in_err-outcome-clause-smallest c = λ run opened task are is below less.
    let p = err_from_is_err_and c.from_residual-in_err-outcome.result c.from_residual-in_err-outcome.ensures.1 in
    let named = sym p.2 ∙ same_error c.from_residual-in_err-outcome.result _ _ p.1 is in
    let made : ℕ = length c.loop-outcome.found.items in
    let here : made ≡ task = named_at run opened c.args.outcomes.items are made c.in_err-outcome.field-0.0 task (stands c) named in
    through_below run opened c.args.outcomes.items are c.loop-outcome.found.items
    (λ k one stood. ap (λ (xs : List (Result TaskResult RunError)). slice_get xs k) (sym c.into_iter-outcome-iterator.ensures.into_iter_gives.0)
    ∙ c.loop-outcome.invariant.each k one stood)
    below (subst (λ (n : ℕ). below < n) (sym here) less)

pub returns-in_err-outcome-clause-errors : goal.returns-in_err-outcome-clause-errors
returns-in_err-outcome-clause-errors c = λ run opened are.
    let p = err_from_is_err_and c.from_residual-in_err-outcome.result c.from_residual-in_err-outcome.ensures.1 in
    err_holds (λ (e : RunError). ((task : ℕ) × (e ≡ Stuck task)) ⊎ (e ≡ OutOfMemory)) c.from_residual-in_err-outcome.result p.0 p.1
    (subst (λ (e : RunError). ((task : ℕ) × (e ≡ Stuck task)) ⊎ (e ≡ OutOfMemory)) (sym p.2)
    (refused_so run opened c.args.outcomes.items are (length c.loop-outcome.found.items) c.in_err-outcome.field-0.0 (stands c)))

pub loop-outcome-preserved : goal.loop-outcome-preserved
loop-outcome-preserved c =
    let was = c.loop-outcome.invariant in
    let steps = c.in-Some.ensures.steps in
    let pushed = c.push_reserved.ensures in
    let items = into_iter_items c.into_iter-outcome-iterator.result in
    let done : ℕ = length c.loop-outcome.found.items in
    let here : slice_get items done ≡ Some c.in-Some.outcome =
    subst (λ (n : ℕ). slice_get items n ≡ Some c.in-Some.outcome) (omega (arith, c.loop-outcome.found.ok.0))
    (was.rest 0 c.in-Some.outcome (ap (λ (xs : List (Result TaskResult RunError)). slice_get xs 0) steps.0)) in
    record {
      made = omega (arith, was.made, steps.1, pushed.len);
      room = omega (arith, was.room, pushed.capacity);
      rest = λ at outcome is. subst (λ (n : ℕ). slice_get items n ≡ Some outcome) (omega (arith, pushed.len))
          (was.rest (suc at) outcome (ap (λ (xs : List (Result TaskResult RunError)). slice_get xs (suc at)) steps.0 ∙ is));
      each = subst (λ (all : List TaskResult). (task : ℕ) (one : TaskResult) → slice_get all task ≡ Some one → slice_get items task ≡ Some (Ok one)) (sym pushed.items)
          (each_push (λ task one. slice_get items task ≡ Some (Ok one)) c.loop-outcome.found.items c.in_ok-outcome.field-0 was.each
          (here ∙ ap (λ (o : Result TaskResult RunError). Some o) c.in_ok-outcome.was));
    }

pub returns-clause-found : goal.returns-clause-found
returns-clause-found c = λ run opened are.
    let was = c.loop-outcome.invariant in
    let none = c.in-None.ensures.steps.0 in
    let gives = c.into_iter-outcome-iterator.ensures.into_iter_gives in
    all_are_found run opened c.args.outcomes.items are c.loop-outcome.found.items
    (λ task one is. ap (λ (xs : List (Result TaskResult RunError)). slice_get xs task) (sym gives.0) ∙ was.each task one is)
    (omega (arith, was.made, none, gives.1, c.loop-outcome.found.ok.0, c.args.outcomes.ok.0))
