-- Tokens are taken, or the part that is read is nearer to an operand.
use Rattle.std.proofs.Common.{◌≡◌, ◌+◌, ◌*◌, ◌<◌, ◌≤◌, Some}
use Rattle.litmus_syntax.specs.Views.{expression_of}
use Rattle.litmus_lex.specs.Cursor.{count_left}
use Rattle.litmus_expression.specs.ExpressionReader.{level_at, more_at}
use Rattle.litmus_expression.specs.States.{state_of}
use Rattle.litmus_expression.proofs.process.Process.+expression.Given as goal

abbrev pub decreases-fetch_of_word : goal.decreases-fetch_of_word
decreases-fetch_of_word l = 20 * count_left l.self.now.cursor

abbrev pub decreases-fetch : goal.decreases-fetch
decreases-fetch l = 20 * count_left l.self.now.cursor

abbrev pub decreases-load : goal.decreases-load
decreases-load l = 20 * count_left l.self.now.cursor + 1

abbrev pub decreases-loading : goal.decreases-loading
decreases-loading l = 20 * count_left l.self.now.cursor + 2

abbrev pub decreases-operand : goal.decreases-operand
decreases-operand l = 20 * count_left l.self.now.cursor + 3

abbrev pub decreases-prefixed : goal.decreases-prefixed
decreases-prefixed l = 20 * count_left l.self.now.cursor + 4

abbrev pub decreases-level : goal.decreases-level
decreases-level l = 20 * count_left l.self.now.cursor + 5 + l.level

abbrev pub decreases-pure : goal.decreases-pure
decreases-pure l = 20 * count_left l.self.now.cursor + 13

abbrev pub decreases-more : goal.decreases-more
decreases-more l = 20 * count_left l.self.now.cursor + l.level

abbrev pub invariant-level-loop-stronger : goal.invariant-level-loop-stronger
invariant-level-loop-stronger l = record {
  moves : count_left l.self.cursor < count_left l.fn.self.cursor;
  reads : level_at l.around.turns l.around.depth l.stronger (state_of l.fn.self) l.fn.rest
      ≡ Some (expression_of l.left, state_of l.self, l.rest);
}

abbrev pub invariant-more-loop-operator : goal.invariant-more-loop-operator
invariant-more-loop-operator l = record {
  moves : count_left l.self.cursor ≤ count_left l.fn.self.cursor;
  reads : more_at l.around.turns l.around.depth l.level (expression_of l.fn.operand) (state_of l.fn.self) l.fn.rest
      ≡ more_at l.around.turns l.around.depth l.level (expression_of l.left) (state_of l.self) l.rest;
}

abbrev pub decreases-more-loop-operator : goal.decreases-more-loop-operator
decreases-more-loop-operator l = count_left l.self.cursor
