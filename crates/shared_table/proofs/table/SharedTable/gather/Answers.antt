use Rattle.std.proofs.Common.{List, subst, arith}
use Rattle.shared_table.specs.Ended.{HasSeat}
use Rattle.shared_table.specs.Seats.{Sitting}
use Rattle.shared_table.proofs.table.SharedTable.gather.Goals as goal

pub end-gathered-requires-clause-everyone : goal.end-gathered-requires-clause-everyone
end-gathered-requires-clause-everyone c =
    λ task below.
    let P : List Sitting → Type 0 = λ seats. HasSeat task seats in
    subst P c.deref.ensures.value
    (c.if-not-has_all_seats.ensures task (omega (arith, below, c.tasks-tasks.ensures)))
