-- one result more
use Rattle.std.proofs.Common.{◌≡◌, ◌∙◌, [], ℕ, suc, IfOk, List, Result, Some, ap, arith, length, map, slice_get, subst, sym, vec_len}
use Rattle.std.proofs.lemmas.List.{length-map}
use Rattle.std.proofs.lemmas.Option.{get_or_from_slice_get}
use Rattle.std.specs.Vec.Iter.{into_iter_items}
use Rattle.prepared_program.specs.declared.program_sites.error.RunError.{RunError}
use Rattle.litmus_step.proofs.FirstLemmas.{each_push}
use Rattle.runner.proofs.together.results_of.Goals as goal
use Rattle.runner.specs.Result.{IsResultOf}
use Rattle.runner.specs.declared.result.RunResult.{RunResult}
use Rattle.runner.specs.declared.run.RunIndex.{RunIndex}
use Rattle.shared_table.specs.Seats.{Opened}

pub loop-table-init : goal.loop-table-init
loop-table-init c = record {
  made = omega (arith, c.in_ok-results.ensures.len);
  made_rows =
      let rows = c.requires.outcomes.all in
      let long = length-map c.args.rows.items (λ row. row.items) in
      omega (arith, rows, long, c.into_iter-rows.ensures.len, c.into_iter-table-iterator.ensures.into_iter_gives.1, c.args.rows.ok.0, c.args.tables.ok.0);
  room = omega (arith, c.in_ok-results.ensures.capacity, c.into_iter-table-iterator.ensures.into_iter_gives.1, c.requires.many, c.args.tables.ok.0);
  rest = λ at table is. subst (λ (n : ℕ). slice_get (into_iter_items c.into_iter-table-iterator.result) n ≡ Some table)
      (omega (arith, c.in_ok-results.ensures.len)) is;
  rest_rows = λ at row is. subst (λ (n : ℕ). slice_get (map (λ row. row.items) (into_iter_items c.into_iter-rows.result)) n ≡ Some row)
      (omega (arith, c.in_ok-results.ensures.len)) is;
  each = λ at result is turn is_turn. absurd (let none : slice_get [] at ≡ Some result =
      ap (λ (xs : List (Result RunResult RunError)). slice_get xs at) (sym c.in_ok-results.ensures.items) ∙ is in cc);
}

pub unreachable-requires : goal.unreachable-requires
unreachable-requires c =
    absurd (omega (arith, c.loop-table.invariant.made_rows, c.in-Some.ensures.steps.1, c.in_default.ensures.cases.0))

pub result_of-requires : goal.result_of-requires
result_of-requires c =
    let was = c.loop-table.invariant in
    let at : ℕ = vec_len c.loop-table.results in
    let tables = into_iter_items c.into_iter-table-iterator.result in
    let rows = map (λ row. row.items) (into_iter_items c.into_iter-rows.result) in
    let table : slice_get c.args.tables.items at ≡ Some c.in-Some.table =
    ap (λ (xs : List Opened). slice_get xs at) (sym c.into_iter-table-iterator.ensures.into_iter_gives.0)
    ∙ subst (λ (n : ℕ). slice_get tables n ≡ Some c.in-Some.table) (omega arith)
    (was.rest 0 c.in-Some.table (ap (λ (xs : List Opened). slice_get xs 0) c.in-Some.ensures.steps.0)) in
    let row : slice_get (map (λ row. row.items) c.args.rows.items) at ≡ Some c.in-Some-next.outcomes.items =
    ap (λ (xs : List _). slice_get (map (λ row. row.items) xs) at) (sym c.into_iter-rows.ensures.rest)
    ∙ subst (λ (n : ℕ). slice_get rows n ≡ Some c.in-Some-next.outcomes.items) (omega arith)
    (was.rest_rows 0 c.in-Some-next.outcomes.items
    (ap (λ (xs : List _). slice_get (map (λ row. row.items) xs) 0) c.in-Some-next.ensures.cases.0)) in
    record {
      given = c.requires.given at c.in-Some.table table;
      outcomes = c.requires.outcomes.each at c.in-Some.table c.in-Some-next.outcomes.items table row;
    }

pub loop-table-preserved : goal.loop-table-preserved
loop-table-preserved c =
    let was = c.loop-table.invariant in
    let steps = c.in-Some.ensures.steps in
    let next = c.in-Some-next.ensures.cases in
    let pushed = c.push_reserved.ensures in
    let tables = into_iter_items c.into_iter-table-iterator.result in
    let rows = map (λ row. row.items) (into_iter_items c.into_iter-rows.result) in
    let done : ℕ = length c.loop-table.results.items in
    record {
      made = omega (arith, was.made, steps.1, pushed.len);
      made_rows = omega (arith, was.made_rows, steps.1, next.1);
      room = omega (arith, was.room, pushed.capacity);
      rest = λ at table is. subst (λ (n : ℕ). slice_get tables n ≡ Some table) (omega (arith, pushed.len))
          (was.rest (suc at) table (ap (λ (xs : List Opened). slice_get xs (suc at)) steps.0 ∙ is));
      rest_rows = λ at row is. subst (λ (n : ℕ). slice_get rows n ≡ Some row) (omega (arith, pushed.len))
          (was.rest_rows (suc at) row (ap (λ (xs : List _). slice_get (map (λ row. row.items) xs) (suc at)) next.0 ∙ is));
      each = subst (λ (all : List (Result RunResult RunError)). (at : ℕ) (result : Result RunResult RunError) → slice_get all at ≡ Some result
          → (turn : RunIndex) → slice_get c.args.turns.now at ≡ Some turn → IsResultOf c.args.program.now c.args.settings.now turn result) (sym pushed.items)
          (each_push (λ at result. (turn : RunIndex) → slice_get c.args.turns.now at ≡ Some turn → IsResultOf c.args.program.now c.args.settings.now turn result)
          c.loop-table.results.items c.result_of.result was.each
          (λ turn is.
          let here : slice_get c.args.turns.now c.len.result ≡ Some turn =
          subst (λ (n : ℕ). slice_get c.args.turns.now n ≡ Some turn) (omega (arith, c.len.ensures, c.loop-table.results.ok.0)) is in
          record {
            once = c.result_of.ensures.once;
            number = subst (λ (t : RunIndex). IfOk c.result_of.result (λ ran. ran.number ≡ t.number))
                (get_or_from_slice_get c.args.turns.now c.len.result turn _ here) c.result_of.ensures.number;
            errors = c.result_of.ensures.errors;
            stuck = c.result_of.ensures.stuck;
          }));
    }

pub returns : goal.returns
returns c =
    let was = c.loop-table.invariant in
    record {
      many = omega (
        arith,
        was.made,
        c.in-None.ensures.steps.0,
        c.into_iter-table-iterator.ensures.into_iter_gives.1,
        c.requires.many,
        c.args.tables.ok.0,
        c.loop-table.results.ok.0,
      );
      each = λ at turn result is_turn is. was.each at result is turn is_turn;
    }
