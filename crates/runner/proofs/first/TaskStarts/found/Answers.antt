-- what comes of it in one run more
use Rattle.std.proofs.Common.{◌≡◌, ◌<◌, ◌∙◌, [], ℕ, suc, List, Result, Some, ap, arith, length, slice_get, slice_index_or, subst, sym}
use Rattle.std.proofs.lemmas.Option.{slice_get-get_or}
use Rattle.std.specs.Vec.Iter.{into_iter_items}
use Rattle.prepared_program.specs.declared.program_sites.error.RunError.{RunError}
use Rattle.litmus_step.proofs.FirstLemmas.{each_push}
use Rattle.litmus_step.specs.Runs.{tasks_of}
use Rattle.runner.proofs.BatchLemmas.{some_same}
use Rattle.runner.proofs.first.TaskStarts.found.Goals as goal
use Rattle.runner.specs.Starts.{IsOutcome, IsStart}
use Rattle.runner.specs.Terms.{AreGiven, run_of_batch}
use Rattle.runner.specs.declared.first.TaskStart.{TaskStart}
use Rattle.runner.specs.declared.seated.TaskResult.{TaskResult}
use Rattle.shared_table.specs.Seats.{Opened}

pub loop-start-init : goal.loop-start-init
loop-start-init g c =
    let start = c.requires.start in
    let none : length c.args.self.outcomes.items ≡ 0 = ap length start.none in
    let gives = c.into_iter-start-iterator.ensures.into_iter_gives in
    record {
      made = omega (arith, none, c.args.self.outcomes.ok.0);
      room = omega (arith, start.room, gives.1, c.args.self.starts.ok.0);
      rest = λ at one is. subst (λ (n : ℕ). slice_get (into_iter_items c.into_iter-start-iterator.result) n ≡ Some one)
          (omega (arith, none, c.args.self.outcomes.ok.0)) is;
      each = λ at outcome is opened is_opened. absurd (let no : slice_get [] at ≡ Some outcome =
          ap (λ (xs : List (Result TaskResult RunError)). slice_get xs at) (sym start.none) ∙ is in cc);
    }

-- the table of the next run is there, and its start is the one that comes next
here : (g : _) (c : goal.After-index-gates-at g) → c.len-at.result < length c.args.batch.tables.now
here g c =
    let was = c.loop-start.invariant in
    omega (
      arith,
      was.made,
      c.in-Some.ensures.steps.1,
      c.into_iter-start-iterator.ensures.into_iter_gives.1,
      c.requires.start.all,
      c.args.self.starts.ok.0,
      c.len-at.ensures,
    )

table_at : (g : _) (c : goal.After-index-gates-at g) → slice_get c.args.batch.tables.now c.len-at.result ≡ Some c.index-batch-at.result
table_at g c =
    slice_get-get_or c.args.batch.tables.now c.len-at.result c.index-batch-at.result (here g c)
    ∙ ap (λ (opened : Opened). Some opened) (sym c.index-batch-at.is)

its_start : (g : _) (c : goal.After-index-gates-at g) → IsStart c.index-batch-at.result c.args.self.number c.in-Some.start
its_start g c =
    let was = c.loop-start.invariant in
    let all = into_iter_items c.into_iter-start-iterator.result in
    let stood : slice_get all c.len-at.result ≡ Some c.in-Some.start =
    subst (λ (n : ℕ). slice_get all n ≡ Some c.in-Some.start) (omega (arith, c.len-at.ensures))
    (was.rest 0 c.in-Some.start (ap (λ (xs : List TaskStart). slice_get xs 0) c.in-Some.ensures.steps.0)) in
    c.requires.start.each c.len-at.result c.index-batch-at.result c.in-Some.start (table_at g c)
    (ap (λ (xs : List TaskStart). slice_get xs c.len-at.result) (sym c.into_iter-start-iterator.ensures.into_iter_gives.0) ∙ stood)

pub found-requires-clause-terms : goal.found-requires-clause-terms
found-requires-clause-terms g c κs within =
    subst (AreGiven c.args.batch.program.now c.args.batch.settings.now c.args.batch.prepared.now) c.index-batch-at.is
    (c.requires.given c.len-at.result c.index-batch-at.result (table_at g c))

pub found-requires-clause-start : goal.found-requires-clause-start
found-requires-clause-start g c κs within =
    let its = its_start g c in
    subst (λ (opened : Opened). IsStart opened c.in-Some.start.number c.in-Some.start) c.index-batch-at.is
    (subst (λ (n : ℕ). IsStart c.index-batch-at.result n c.in-Some.start) (sym its.number) its)

pub found-requires-clause-there : goal.found-requires-clause-there
found-requires-clause-there g c κs within =
    let its = its_start g c in
    subst (λ (n : ℕ). n < tasks_of (run_of_batch c.args.batch)) (sym its.number) c.requires.there

pub loop-start-preserved : goal.loop-start-preserved
loop-start-preserved g c =
    let was = c.loop-start.invariant in
    let steps = c.in-Some.ensures.steps in
    let pushed = c.push_reserved.ensures in
    let run = run_of_batch c.args.batch in
    let tables : List Opened = c.args.batch.tables.now in
    let all = into_iter_items c.into_iter-start-iterator.result in
    let at : ℕ = c.len-at.result in
    let below : at < length tables =
    omega (arith, was.made, steps.1, c.into_iter-start-iterator.ensures.into_iter_gives.1, c.requires.start.all, c.args.self.starts.ok.0, c.len-at.ensures) in
    let table : slice_get tables at ≡ Some c.index-batch-at.result =
    slice_get-get_or tables at c.index-batch-at.result below ∙ ap (λ (opened : Opened). Some opened) (sym c.index-batch-at.is) in
    let stood : slice_get all at ≡ Some c.in-Some.start =
    subst (λ (n : ℕ). slice_get all n ≡ Some c.in-Some.start) (omega (arith, c.len-at.ensures))
    (was.rest 0 c.in-Some.start (ap (λ (xs : List TaskStart). slice_get xs 0) steps.0)) in
    let its = c.requires.start.each at c.index-batch-at.result c.in-Some.start table
    (ap (λ (xs : List TaskStart). slice_get xs at) (sym c.into_iter-start-iterator.ensures.into_iter_gives.0) ∙ stood) in
    let outcome : IsOutcome run (slice_index_or tables at c.index-batch-at.result) c.in-Some.start.number c.found.result = c.found.ensures in
    record {
      made = omega (arith, was.made, steps.1, pushed.len);
      room = omega (arith, was.room, pushed.capacity);
      rest = λ k start is. subst (λ (n : ℕ). slice_get all n ≡ Some start) (omega (arith, pushed.len))
          (was.rest (suc k) start (ap (λ (xs : List TaskStart). slice_get xs (suc k)) steps.0 ∙ is));
      each = subst (λ (done : List (Result TaskResult RunError)). (k : ℕ) (one : Result TaskResult RunError) → slice_get done k ≡ Some one
          → (opened : Opened) → slice_get tables k ≡ Some opened → IsOutcome run opened c.args.self.number one) (sym pushed.items)
          (each_push (λ k one. (opened : Opened) → slice_get tables k ≡ Some opened → IsOutcome run opened c.args.self.number one)
          c.loop-start.outcomes.items c.found.result was.each
          (λ opened is.
          let same : c.index-batch-at.result ≡ opened = some_same c.index-batch-at.result opened (sym table
          ∙ subst (λ (n : ℕ). slice_get tables n ≡ Some opened) (omega (arith, c.len-at.ensures, c.loop-start.outcomes.ok.0)) is) in
          subst (λ (t : Opened). IsOutcome run t c.args.self.number c.found.result) (sym c.index-batch-at.is ∙ same)
          (subst (λ (n : ℕ). IsOutcome run (slice_index_or tables at c.index-batch-at.result) n c.found.result) its.number outcome)));
    }

pub returns : goal.returns
returns g c =
    let was = c.loop-start.invariant in
    record {
      all = omega (
        arith,
        was.made,
        c.in-None.ensures.steps.0,
        c.into_iter-start-iterator.ensures.into_iter_gives.1,
        c.requires.start.all,
        c.args.self.starts.ok.0,
        c.loop-start.outcomes.ok.0,
      );
      each = λ at opened outcome is_opened is. was.each at outcome is opened is_opened;
    }
