-- The column so far is that of the place so far.
use Rattle.std.proofs.Common.{◌≡◌, ◌+◌, ◌≤◌}
use Rattle.litmus_lex.specs.Lines.{column_at}
use Rattle.litmus_lex.proofs.lines.column_of.Given as goal

abbrev pub invariant-loop-byte : goal.invariant-loop-byte
invariant-loop-byte l = record {
  within : l.column ≤ l.byte-index + 1;
  counted : l.column ≡ column_at l.before l.byte-index;
}
