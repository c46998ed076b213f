-- Each `)` takes a token, and is one of those that are closed.
use Rattle.std.proofs.Common.{◌≡◌, ◌-◌, ◌≤◌}
use Rattle.litmus_lex.specs.Cursor.{count_left}
use Rattle.litmus_lex.specs.Front.{symbols_left}
use Rattle.litmus_expression.specs.ExpressionReader.{closed}
use Rattle.litmus_expression.proofs.expression.close_data_races.Given as goal

abbrev pub invariant-loop : goal.invariant-loop
invariant-loop l = record {
  moves : count_left l.cursor ≤ count_left l.fn.cursor;
  reads : closed l.count (symbols_left l.fn.cursor) ≡ closed (l.count - l.counter) (symbols_left l.cursor);
}
