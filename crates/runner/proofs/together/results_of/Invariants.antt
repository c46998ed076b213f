-- Each result so far is of its turn, and there is a row of outcomes for each table that is left.
use Rattle.std.proofs.Common.{◌≡◌, ◌≤◌, ◌+◌, ℕ, List, Result, Some, map, slice_get, vec_capacity, vec_len}
use Rattle.std.specs.Vec.Iter.{into_iter_items, into_iter_len}
use Rattle.prepared_program.specs.declared.program_sites.error.RunError.{RunError}
use Rattle.runner.proofs.together.results_of.Given as goal
use Rattle.runner.specs.Result.{IsResultOf}
use Rattle.runner.specs.declared.result.RunResult.{RunResult}
use Rattle.runner.specs.declared.run.RunIndex.{RunIndex}
use Rattle.runner.specs.declared.seated.TaskResult.{TaskResult}
use Rattle.shared_table.specs.Seats.{Opened}

abbrev pub invariant-loop-table : goal.invariant-loop-table
invariant-loop-table l = record {
  made : vec_len l.results + into_iter_len l.table-iterator ≡ into_iter_len l.initial.table-iterator;
  made_rows : into_iter_len l.rows ≡ into_iter_len l.table-iterator;
  room : into_iter_len l.initial.table-iterator ≤ vec_capacity l.results;
  rest : (at : ℕ) (table : Opened) → slice_get (into_iter_items l.table-iterator) at ≡ Some table
      → slice_get (into_iter_items l.initial.table-iterator) (vec_len l.results + at) ≡ Some table;
  rest_rows : (at : ℕ) (row : List (Result TaskResult RunError)) → slice_get (map (λ row. row.items) (into_iter_items l.rows)) at ≡ Some row
      → slice_get (map (λ row. row.items) (into_iter_items l.initial.rows)) (vec_len l.results + at) ≡ Some row;
  each : (at : ℕ) (result : Result RunResult RunError) → slice_get l.results.items at ≡ Some result
      → (turn : RunIndex) → slice_get l.turns at ≡ Some turn → IsResultOf l.program l.settings turn result;
}
