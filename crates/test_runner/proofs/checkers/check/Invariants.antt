-- The table stays.
use Rattle.std.proofs.Common.{◌≡◌}
use Rattle.test_runner.proofs.checkers.check.Given as goal

abbrev pub invariant-steps : goal.invariant-steps
invariant-steps g l = l.player.table.now ≡ l.initial.player.table.now
