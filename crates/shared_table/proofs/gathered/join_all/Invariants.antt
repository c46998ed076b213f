-- What the seats hold that are left, and what is held already.
use Rattle.std.proofs.Common.{◌≡◌, [], ◌++◌, All, map, vec_len}
use Rattle.shared_table.specs.Ended.{held_by}
use Rattle.shared_table.proofs.gathered.join_all.Given as goal

abbrev pub invariant-loop-seat : goal.invariant-loop-seat
invariant-loop-seat l = record {
  same : l.whole.table_id ≡ l.row.shared.table_id;
  me : l.whole.me ≡ (record { opening = l.row.shared.key; held = l.whole.me.0.held }, []);
  held : map held_by l.seats.items ++ l.whole.me.0.held ≡ map held_by l.fn.seats.items;
  theirs : All (λ seat. seat.table ≡ record { id = l.row.shared.table_id; given = l.row.shared.key }) l.seats.items;
}

abbrev pub decreases-loop-seat : goal.decreases-loop-seat
decreases-loop-seat l = vec_len l.seats
