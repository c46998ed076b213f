-- The parts so far, and those of the rest, are those of all.
use Rattle.std.proofs.Common.{◌≡◌, ◌≤◌, ◌+◌, ◌++◌, map, vec_capacity, vec_len}
use Rattle.std.specs.Vec.Iter.{into_iter_items, into_iter_len}
use Rattle.runner.proofs.together.apart.Given as goal
use Rattle.runner.specs.declared.seated.TaskResult.{TaskResult}

abbrev pub invariant-loop-one : goal.invariant-loop-one
invariant-loop-one l = record {
  seats : l.seats.items ++ map (λ (one : TaskResult). one.seat) (into_iter_items l.one-iterator)
      ≡ map (λ (one : TaskResult). one.seat) (into_iter_items l.initial.one-iterator);
  logs : l.logs.items ++ map (λ (one : TaskResult). one.log) (into_iter_items l.one-iterator)
      ≡ map (λ (one : TaskResult). one.log) (into_iter_items l.initial.one-iterator);
  registers : l.registers.items ++ map (λ (one : TaskResult). one.registers) (into_iter_items l.one-iterator)
      ≡ map (λ (one : TaskResult). one.registers) (into_iter_items l.initial.one-iterator);
  room_for_seats : vec_len l.seats + into_iter_len l.one-iterator ≤ vec_capacity l.seats;
  room_for_logs : vec_len l.logs + into_iter_len l.one-iterator ≤ vec_capacity l.logs;
  room_for_registers : vec_len l.registers + into_iter_len l.one-iterator ≤ vec_capacity l.registers;
}
