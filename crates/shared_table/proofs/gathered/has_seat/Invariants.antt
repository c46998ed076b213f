use Rattle.std.proofs.Common.{◌≢◌, ℕ, ◌<◌, get_or}
use Rattle.shared_table.specs.Seats.{Sitting}
use Rattle.shared_table.proofs.gathered.has_seat.Given as goal

abbrev pub invariant-loop-seat : goal.invariant-loop-seat
invariant-loop-seat l = (k : ℕ) (d : Sitting) → k < l.seat-index → (get_or l.seats k d).task ≢ l.task
