-- Each thread so far promises what comes of its start, and there is room for the rest.
use Rattle.std.proofs.Common.{◌≡◌, ◌≤◌, ◌+◌, ◌++◌, ℕ, Some, map, slice_get, vec_capacity, vec_len}
use Rattle.std.specs.Vec.Iter.{into_iter_items, into_iter_len}
use Rattle.prepared_program.specs.program_sites.Prepared.{sites_in}
use Rattle.litmus_step.specs.Runs.{run_of, tasks_of}
use Rattle.runner.proofs.threads.fn.on_threads.scope.Given as goal
use Rattle.runner.specs.Starts.{AreSomeStarts}
use Rattle.runner.specs.Terms.{run_of_batch}
use Rattle.runner.specs.declared.first.TaskStarts.{TaskStarts}

abbrev pub invariant-loop-start : goal.invariant-loop-start
invariant-loop-start g l = record {
  made : vec_len l.handles + into_iter_len l.start-iterator ≡ into_iter_len l.initial.start-iterator;
  room : into_iter_len l.initial.start-iterator ≤ vec_capacity l.handles;
  rest : AreSomeStarts l.tables (tasks_of (run_of l.program l.settings (sites_in l.prepared))) (into_iter_items l.start-iterator);
  runs : (at : ℕ) (handle : _) → slice_get l.handles.items at ≡ Some handle
      → run_of_batch handle.promise.batch ≡ run_of l.program l.settings (sites_in l.prepared);
  tables : (at : ℕ) (handle : _) → slice_get l.handles.items at ≡ Some handle → handle.promise.batch.tables.now ≡ l.tables;
  tasks : map (λ handle. handle.promise.task) l.handles.items ++ map (λ (start : TaskStarts). start.number) (into_iter_items l.start-iterator)
      ≡ map (λ (start : TaskStarts). start.number) (into_iter_items l.initial.start-iterator);
}
