-- Each item takes a token, and what is left to read is what was to be read.
use Rattle.std.proofs.Common.{◌≡◌}
use Rattle.litmus_lex.specs.Cursor.{count_left}
use Rattle.litmus_parse.specs.ItemReader.{heading_of, initialization_at, items_at}
use Rattle.litmus_parse.proofs.initialization.Header.initialization.Given as goal

abbrev pub invariant-loop-self : goal.invariant-loop-self
invariant-loop-self l = initialization_at (heading_of l.fn.self) ≡ items_at (heading_of l.self)

abbrev pub decreases-loop-self : goal.decreases-loop-self
decreases-loop-self l = count_left l.self.cursor
