-- Each parameter takes a token, and what is left to read is what was to be read.
use Rattle.std.proofs.Common.{◌≡◌, ◌≤◌, [], map}
use Rattle.litmus_lex.specs.Cursor.{count_left}
use Rattle.litmus_expression.specs.States.{parameter_of}
use Rattle.litmus_parse.specs.ItemReader.{heading_of}
use Rattle.litmus_parse.specs.ParameterReader.{listed_at}
use Rattle.litmus_parse.proofs.initialization.Header.listed.Given as goal

abbrev pub invariant-loop-parameters : goal.invariant-loop-parameters
invariant-loop-parameters l = record {
  moves : count_left l.self.cursor ≤ count_left l.fn.self.cursor;
  reads : listed_at ([], heading_of l.fn.self) ≡ listed_at (map parameter_of l.parameters.items, heading_of l.self);
}

abbrev pub decreases-loop-parameters : goal.decreases-loop-parameters
decreases-loop-parameters l = count_left l.self.cursor
