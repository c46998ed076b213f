-- What came of the task in the runs so far is an outcome of it in each, and there is room for the rest.
use Rattle.std.proofs.Common.{◌≡◌, ◌≤◌, ◌+◌, ℕ, Result, Some, slice_get, vec_capacity, vec_len}
use Rattle.std.specs.Vec.Iter.{into_iter_items, into_iter_len}
use Rattle.prepared_program.specs.declared.program_sites.error.RunError.{RunError}
use Rattle.runner.proofs.first.TaskStarts.found.Given as goal
use Rattle.runner.specs.Starts.{IsOutcome}
use Rattle.runner.specs.Terms.{run_of_batch}
use Rattle.runner.specs.declared.first.TaskStart.{TaskStart}
use Rattle.runner.specs.declared.seated.TaskResult.{TaskResult}
use Rattle.shared_table.specs.Seats.{Opened}

abbrev pub invariant-loop-start : goal.invariant-loop-start
invariant-loop-start g l = record {
  made : vec_len l.outcomes + into_iter_len l.start-iterator ≡ into_iter_len l.initial.start-iterator;
  room : into_iter_len l.initial.start-iterator ≤ vec_capacity l.outcomes;
  rest : (at : ℕ) (start : TaskStart) → slice_get (into_iter_items l.start-iterator) at ≡ Some start
      → slice_get (into_iter_items l.initial.start-iterator) (vec_len l.outcomes + at) ≡ Some start;
  each : (at : ℕ) (outcome : Result TaskResult RunError) → slice_get l.outcomes.items at ≡ Some outcome
      → (opened : Opened) → slice_get l.batch.tables.now at ≡ Some opened → IsOutcome (run_of_batch l.batch) opened l.fn.self.number outcome;
}
