-- The table stays.
use Rattle.std.proofs.Common.{◌≡◌}
use Rattle.test_runner.proofs.words.Player.lock.Given as goal

abbrev pub invariant-turns : goal.invariant-turns
invariant-turns g l = l.self.table.now ≡ l.initial.self.table.now
