use Rattle.std.proofs.Common.{ℕ, ◌<◌, get_or}
use Rattle.slot_table.specs.Discipline.{IsFinished}
use Rattle.shared_table.specs.Seats.{Sitting}
use Rattle.shared_table.proofs.gathered.has_unfinished.Given as goal

abbrev pub invariant-loop-seat : goal.invariant-loop-seat
invariant-loop-seat l = (k : ℕ) (d : Sitting) → k < l.seat-index → IsFinished (get_or l.seats k d).records
