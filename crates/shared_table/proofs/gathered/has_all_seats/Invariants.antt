use Rattle.std.proofs.Common.{ℕ, ◌<◌}
use Rattle.shared_table.specs.Ended.{HasSeat}
use Rattle.shared_table.proofs.gathered.has_all_seats.Given as goal

abbrev pub invariant-loop-task : goal.invariant-loop-task
invariant-loop-task l = (k : ℕ) → k < l.task → HasSeat k l.seats
