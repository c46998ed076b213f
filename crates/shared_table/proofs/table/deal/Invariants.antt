-- So many tasks have a seat, and the first seat holds the others.
use Rattle.std.proofs.Common.{◌≡◌, ◌≤◌, ◌-◌, [], vec_capacity, vec_len}
use Rattle.shared_table.specs.Seats.{new_seats}
use Rattle.shared_table.specs.Views.{holding}
use Rattle.shared_table.proofs.table.deal.Given as goal

abbrev pub invariant-loop-task : goal.invariant-loop-task
invariant-loop-task l = record {
  same : l.first.table_id ≡ l.row.shared.table_id;
  rest : l.first.me ≡ (holding l.row.shared.key l.task (l.tasks - l.task), []);
  seats : l.seats.items ≡ new_seats (record { id = l.row.shared.table_id; given = l.row.shared.key }) l.task;
  count : vec_len l.seats ≡ l.task;
  room : l.tasks ≤ vec_capacity l.seats;
}
