-- The table stays.
use Rattle.std.proofs.Common.{◌≡◌}
use Rattle.test_runner.proofs.words.Player.increment_often.Given as goal

abbrev pub invariant-increments : goal.invariant-increments
invariant-increments g l = l.self.table.now ≡ l.initial.self.table.now
