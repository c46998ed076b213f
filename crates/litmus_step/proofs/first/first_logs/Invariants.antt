-- Each log so far is of no step, and there is room for the rest.
use Rattle.std.proofs.Common.{◌≡◌, ◌≤◌, ◌*◌, [], ℕ, Some, length, slice_get, slice_index_or, vec_capacity, vec_len}
use Rattle.litmus_step.proofs.first.first_logs.Given as goal
use Rattle.task_log.specs.Keeps.{Keeps}
use Rattle.task_log.specs.declared.log.TaskLog.{TaskLog}

abbrev pub invariant-loop-one : goal.invariant-loop-one
invariant-loop-one l = record {
  made : vec_len l.logs ≡ l.one-index;
  room : length l.accesses ≤ vec_capacity l.logs;
  each : (task : ℕ) (log : TaskLog) → slice_get l.logs.items task ≡ Some log
      → Keeps (slice_index_or l.accesses task 0) (9 * slice_index_or l.accesses task 0) [] log;
}
