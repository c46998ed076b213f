-- Each `data_race (` takes two tokens, and is one of those that are opened.
use Rattle.std.proofs.Common.{◌≡◌, ◌+◌, ◌≤◌}
use Rattle.litmus_lex.specs.Cursor.{count_left}
use Rattle.litmus_lex.specs.Front.{symbols_left}
use Rattle.litmus_expression.specs.ExpressionReader.{opened}
use Rattle.litmus_expression.proofs.expression.open_data_races.Given as goal

abbrev pub invariant-loop-cursor : goal.invariant-loop-cursor
invariant-loop-cursor l = record {
  moves : l.count + count_left l.cursor ≤ count_left l.fn.cursor;
  reads : opened 0 (symbols_left l.fn.cursor) ≡ opened l.count (symbols_left l.cursor);
}

abbrev pub decreases-loop-cursor : goal.decreases-loop-cursor
decreases-loop-cursor l = count_left l.cursor
