-- Tokens are taken, or the part that is read is nearer to its first token.
use Rattle.std.proofs.Common.{◌≡◌, ◌+◌, ◌*◌, ◌<◌}
use Rattle.litmus_syntax.specs.Views.{block_of}
use Rattle.litmus_lex.specs.Cursor.{count_left}
use Rattle.litmus_expression.specs.Places.{place_of}
use Rattle.litmus_expression.specs.States.{state_of}
use Rattle.litmus_body.specs.StatementReader.{block_at, more_at}
use Rattle.litmus_body.proofs.statement.+statement.Given as goal

abbrev pub decreases-read_branch : goal.decreases-read_branch
decreases-read_branch l = 10 * count_left l.process.now.cursor

abbrev pub decreases-read_repetition : goal.decreases-read_repetition
decreases-read_repetition l = 10 * count_left l.process.now.cursor

abbrev pub decreases-read_block : goal.decreases-read_block
decreases-read_block l = 10 * count_left l.process.now.cursor

abbrev pub decreases-read_counted : goal.decreases-read_counted
decreases-read_counted l = 10 * count_left l.process.now.cursor + 1

abbrev pub decreases-read_statement : goal.decreases-read_statement
decreases-read_statement l = 10 * count_left l.process.now.cursor + 2

abbrev pub decreases-read_body : goal.decreases-read_body
decreases-read_body l = 10 * count_left l.process.now.cursor + 3

abbrev pub invariant-read_block-loop-inside : goal.invariant-read_block-loop-inside
invariant-read_block-loop-inside l = record {
  moves : count_left l.process.cursor < count_left l.fn.process.cursor;
  reads : block_at (place_of l.fn.around) (state_of l.fn.process)
      ≡ more_at (place_of l.inside) (block_of l.statements.items) (state_of l.process);
}

abbrev pub decreases-read_block-loop-inside : goal.decreases-read_block-loop-inside
decreases-read_block-loop-inside l = count_left l.process.cursor
