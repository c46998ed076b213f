-- Each `,` takes a token, and what is left to read is what was to be read.
use Rattle.std.proofs.Common.{◌≡◌, ◌≤◌}
use Rattle.litmus_lex.specs.Cursor.{count_left}
use Rattle.litmus_lex.specs.Front.{symbols_left}
use Rattle.litmus_expression.specs.Places.{place_of}
use Rattle.litmus_expression.specs.States.{state_of}
use Rattle.litmus_body.specs.StatementReader.{more_declared}
use Rattle.litmus_body.proofs.statement.take_more_declared.Given as goal

abbrev pub invariant-loop-process : goal.invariant-loop-process
invariant-loop-process l = record {
  moves : count_left l.process.cursor ≤ count_left l.fn.process.cursor;
  reads : more_declared (place_of l.around).counters (state_of l.fn.process) (symbols_left l.fn.process.cursor)
      ≡ more_declared (place_of l.around).counters (state_of l.process) (symbols_left l.process.cursor);
}

abbrev pub decreases-loop-process : goal.decreases-loop-process
decreases-loop-process l = count_left l.process.cursor
