-- The seat stays at its table.
use Rattle.std.proofs.Common.{◌≡◌}
use Rattle.measure_shared_table.proofs.step_often.Given as goal

abbrev pub invariant-rounds : goal.invariant-rounds
invariant-rounds l = l.board.table ≡ l.table
