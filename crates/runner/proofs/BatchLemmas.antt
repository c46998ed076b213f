-- The tasks of several runs, by run and by task.
use Rattle.std.proofs.Common.{◌≡◌, ◌<◌, ◌+◌, ◌∙◌, ◌∷◌, ◌++◌, [], ℕ, zero, suc, List, Result, Some, ap, arith, get_or, length, map, option_map, refl, slice_get, subst, sym}
use Rattle.std.proofs.lemmas.List.{length-append}
use Rattle.std.proofs.lemmas.Option.{slice_get-get_or, slice_get-map, slice_get_within}
use Rattle.litmus_step.specs.Runs.{tasks_of}
use Rattle.executions.specs.execution.Run.{Run}
use Rattle.prepared_program.specs.declared.program_sites.error.RunError.{RunError}
use Rattle.runner.proofs.ColumnLemmas.{item_there}
use Rattle.runner.specs.Columns.{AreColumns}
use Rattle.runner.specs.Result.{AreResultsOf, IsResultOf}
use Rattle.runner.specs.declared.result.RunResult.{RunResult}
use Rattle.runner.specs.declared.run.RunIndex.{RunIndex}
use Rattle.litmus_syntax.specs.declared.program.Program.{Program}
use Rattle.prepared_program.specs.declared.program_sites.settings.Settings.{Settings}
use Rattle.runner.specs.Starts.{AreAllOutcomes, AreAllStarts, AreOutcomesOfEach, AreStarts, AreStartsOfEach, AreTaskStarts}
use Rattle.runner.specs.declared.first.TaskStart.{TaskStart}
use Rattle.runner.specs.declared.first.TaskStarts.{TaskStarts}
use Rattle.runner.specs.declared.seated.TaskResult.{TaskResult}
use Rattle.shared_table.specs.Seats.{Opened}

-- what is so of each that comes of an item is so at each place
pub at_each : {A B : Type 0} (f : A → B) (P : B → Type 0) (xs : List A) → ((at : ℕ) (y : B) → slice_get (map f xs) at ≡ Some y → P y)
    → (at : ℕ) (d : A) → at < length xs → P (f (get_or xs at d))
at_each f P xs each at d below =
    each at (f (get_or xs at d)) (slice_get-map f xs at ∙ ap (option_map f) (slice_get-get_or xs at d below))

-- the columns of the starts of several runs are those of each task
pub all_starts : (tables : List Opened) (tasks : ℕ) (rows columns : List (List TaskStart)) (all : List TaskStarts) → AreStartsOfEach tables rows
    → AreColumns tasks rows columns → AreTaskStarts columns all → AreAllStarts tables tasks all
all_starts tables tasks rows columns all starts turned held = record {
  many = held.many ∙ turned.wide;
  each = λ task it is.
      let column = item_there columns task (omega (arith, slice_get_within all task it is, held.many)) in
      let holds = held.each task column.0 it column.1 is in
      record {
        number = holds.number;
        all = ap length holds.starts ∙ (turned.tall task column.0 column.1 ∙ starts.all);
        each = λ at opened start is_opened is_start.
            let row = item_there rows at (omega (arith, slice_get_within tables at opened is_opened, starts.all)) in
            (starts.each at opened row.0 is_opened row.1).each task start
            (sym (turned.item task at column.0 row.0 column.1 row.1)
            ∙ (ap (λ (xs : List TaskStart). slice_get xs at) (sym holds.starts) ∙ is_start));
        none = holds.none;
        room = holds.room;
      };
}

-- the columns of what comes of each task are what comes of the tasks of each run
pub all_outcomes : (run : Run) (tables : List Opened) (runs : ℕ) (columns rows : List (List (Result TaskResult RunError)))
    → AreAllOutcomes run tables (tasks_of run) columns → AreColumns runs columns rows → runs ≡ length tables → AreOutcomesOfEach run tables rows
all_outcomes run tables runs columns rows came turned as_many = record {
  all = turned.wide ∙ as_many;
  each = λ at opened row is_opened is_row. record {
    all = turned.tall at row is_row ∙ came.many;
    each = λ task outcome is.
        let column = item_there columns task
        (omega (arith, slice_get_within row task outcome is, turned.tall at row is_row)) in
        (came.each task column.0 column.1).each at opened outcome is_opened
        (sym (turned.item at task row column.0 is_row column.1) ∙ is);
  };
}

pub some_same : {X : Type 0} (one other : X) → Some one ≡ Some other → one ≡ other
some_same one other same = cc

-- what holds of the items of two lists at each place holds with one more in both
pub both_push : {X Y : Type 0} (P : X → Y → Type 0) (xs : List X) (ys : List Y) (x : X) (y : Y) → length ys ≡ length xs
    → ((at : ℕ) (one : X) (other : Y) → slice_get xs at ≡ Some one → slice_get ys at ≡ Some other → P one other) → P x y
    → (at : ℕ) (one : X) (other : Y) → slice_get (xs ++ x ∷ []) at ≡ Some one → slice_get (ys ++ y ∷ []) at ≡ Some other → P one other
both_push P [] [] x y same each here zero one other is_one is_other =
    subst (λ o. P o other) (some_same x one is_one) (subst (P x) (some_same y other is_other) here)
both_push P [] [] x y same each here (suc at) one other is_one is_other = absurd (cc)
both_push P [] (b ∷ ys) x y same each here at one other is_one is_other = absurd (omega (arith, same))
both_push P (a ∷ xs) [] x y same each here at one other is_one is_other = absurd (omega (arith, same))
both_push P (a ∷ xs) (b ∷ ys) x y same each here zero one other is_one is_other = each zero one other is_one is_other
both_push P (a ∷ xs) (b ∷ ys) x y same each here (suc at) one other is_one is_other =
    both_push P xs ys x y (omega (arith, same)) (λ k p q. each (suc k) p q) here at one other is_one is_other

-- no run yet
pub no_starts : (tables : List Opened) (rows : List (List TaskStart)) → tables ≡ [] → rows ≡ [] → AreStartsOfEach tables rows
no_starts tables rows none none_rows = record {
  all = ap length none_rows ∙ sym (ap length none);
  each = λ at opened row is_opened is_row.
      absurd (let no : slice_get [] at ≡ Some opened = ap (λ (xs : List Opened). slice_get xs at) (sym none) ∙ is_opened in cc);
}

-- the tasks of one run more
pub more_starts : (tables : List Opened) (rows : List (List TaskStart)) (opened : Opened) (row : List TaskStart) → AreStartsOfEach tables rows
    → AreStarts opened row → AreStartsOfEach (tables ++ opened ∷ []) (rows ++ row ∷ [])
more_starts tables rows opened row starts here = record {
  all = length-append rows (row ∷ []) ∙ (ap (λ (n : ℕ). n + 1) starts.all ∙ sym (length-append tables (opened ∷ [])));
  each = both_push (λ o r. AreStarts o r) tables rows opened row starts.all starts.each here;
}

-- what comes of the one turn
pub of_one_turn : (program : Program) (settings : Settings) (turn : RunIndex) (all before : List (Result RunResult RunError))
    (outcome : Result RunResult RunError) → AreResultsOf program settings (turn ∷ []) all → all ≡ before ++ outcome ∷ []
    → IsResultOf program settings turn outcome
of_one_turn program settings turn all [] outcome are is =
    are.each 0 turn outcome refl (ap (λ (xs : List (Result RunResult RunError)). slice_get xs 0) is)
of_one_turn program settings turn all (first ∷ before) outcome are is =
    let long = ap length is in
    let more = length-append before (outcome ∷ []) in
    absurd (omega (arith, long, more, are.many))
