-- So far each task was found.
use Rattle.std.proofs.Common.{◌≡◌, ◌≤◌, ◌+◌, ℕ, Ok, Result, Some, slice_get, vec_capacity, vec_len}
use Rattle.std.specs.Vec.Iter.{into_iter_items, into_iter_len}
use Rattle.runner.proofs.together.all_found.Given as goal
use Rattle.prepared_program.specs.declared.program_sites.error.RunError.{RunError}
use Rattle.runner.specs.declared.seated.TaskResult.{TaskResult}

abbrev pub invariant-loop-outcome : goal.invariant-loop-outcome
invariant-loop-outcome l = record {
  made : vec_len l.found + into_iter_len l.outcome-iterator ≡ into_iter_len l.initial.outcome-iterator;
  room : into_iter_len l.initial.outcome-iterator ≤ vec_capacity l.found;
  rest : (at : ℕ) (outcome : Result TaskResult RunError) → slice_get (into_iter_items l.outcome-iterator) at ≡ Some outcome
      → slice_get (into_iter_items l.initial.outcome-iterator) (vec_len l.found + at) ≡ Some outcome;
  each : (task : ℕ) (one : TaskResult) → slice_get l.found.items task ≡ Some one
      → slice_get (into_iter_items l.initial.outcome-iterator) task ≡ Some (Ok one);
}
