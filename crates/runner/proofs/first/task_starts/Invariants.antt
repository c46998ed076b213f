-- Each start so far is of its column, and there is room for the rest.
use Rattle.std.proofs.Common.{◌≡◌, ◌≤◌, ◌+◌, ℕ, List, Some, map, slice_get, vec_capacity, vec_len}
use Rattle.std.specs.Vec.Iter.{into_iter_items, into_iter_len}
use Rattle.runner.proofs.first.task_starts.Given as goal
use Rattle.runner.specs.Starts.{HoldsStarts}
use Rattle.runner.specs.declared.first.TaskStart.{TaskStart}
use Rattle.runner.specs.declared.first.TaskStarts.{TaskStarts}

abbrev pub invariant-loop-starts : goal.invariant-loop-starts
invariant-loop-starts l = record {
  made : vec_len l.all + into_iter_len l.starts-iterator ≡ into_iter_len l.initial.starts-iterator;
  room : into_iter_len l.initial.starts-iterator ≤ vec_capacity l.all;
  rest : (at : ℕ) (column : List TaskStart) → slice_get (map (λ starts. starts.items) (into_iter_items l.starts-iterator)) at ≡ Some column
      → slice_get (map (λ starts. starts.items) (into_iter_items l.initial.starts-iterator)) (vec_len l.all + at) ≡ Some column;
  each : (task : ℕ) (it : TaskStarts) → slice_get l.all.items task ≡ Some it
      → (column : List TaskStart) → slice_get (map (λ starts. starts.items) (into_iter_items l.initial.starts-iterator)) task ≡ Some column
      → HoldsStarts task column it;
}
