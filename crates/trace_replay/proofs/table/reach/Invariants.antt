-- the rows that are made have no values
use Rattle.std.proofs.Common.{◌≡◌, ◌+◌, ◌-◌, ℕ, length}
use Rattle.trace_replay.specs.Table.{in_rows}
use Rattle.trace_replay.proofs.table.reach.Given as goal

abbrev pub invariant-loop-alloc : goal.invariant-loop-alloc
invariant-loop-alloc g l = (none : g.row.V.Denot) (number : ℕ) → in_rows l.rows.items none number ≡ in_rows l.fn.rows.items none number

abbrev pub decreases-loop-alloc : goal.decreases-loop-alloc
decreases-loop-alloc g l = l.row + 1 - length l.rows.items
