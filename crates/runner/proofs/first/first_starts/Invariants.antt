-- Each seat so far is one of a task that is to begin, and there is room for the rest.
use Rattle.std.proofs.Common.{◌≡◌, ◌≤◌, ◌+◌, ℕ, Some, slice_get, vec_capacity, vec_len}
use Rattle.std.specs.Vec.Iter.{into_iter_items, into_iter_len}
use Rattle.runner.proofs.first.first_starts.Given as goal
use Rattle.runner.specs.Starts.{IsStart}
use Rattle.runner.specs.declared.first.TaskStart.{TaskStart}
use Rattle.shared_table.specs.Seats.{Opened, Sitting, new_seats}

abbrev pub invariant-loop-seat : goal.invariant-loop-seat
invariant-loop-seat l = record {
  made : vec_len l.starts + into_iter_len l.seat-iterator ≡ into_iter_len l.initial.seat-iterator;
  room : into_iter_len l.initial.seat-iterator ≤ vec_capacity l.starts;
  rest : (at : ℕ) (seat : Sitting) → slice_get (into_iter_items l.seat-iterator) at ≡ Some seat
      → slice_get (into_iter_items l.initial.seat-iterator) (vec_len l.starts + at) ≡ Some seat;
  each : (opened : Opened) → into_iter_items l.initial.seat-iterator ≡ new_seats opened opened.given.tasks
      → (task : ℕ) (start : TaskStart) → slice_get l.starts.items task ≡ Some start → IsStart opened task start;
}
