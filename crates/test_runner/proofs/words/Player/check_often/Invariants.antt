-- The table stays.
use Rattle.std.proofs.Common.{◌≡◌}
use Rattle.test_runner.proofs.words.Player.check_often.Given as goal

abbrev pub invariant-checks : goal.invariant-checks
invariant-checks g l = l.self.table.now ≡ l.initial.self.table.now
