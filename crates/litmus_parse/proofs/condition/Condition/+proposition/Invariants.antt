-- Tokens are taken, or the part that is read is nearer to an atom; and what is left to read is what was to be read.
use Rattle.std.proofs.Common.{◌≡◌, ◌+◌, ◌*◌, ◌<◌}
use Rattle.std.specs.Prelude.{vec_len}
use Rattle.litmus_syntax.specs.Views.{proposition_of}
use Rattle.litmus_lex.specs.Cursor.{count_left}
use Rattle.litmus_parse.specs.PropositionReader.{and_more_at, asked_of, conjunction_at, disjunction_at, or_more_at}
use Rattle.litmus_parse.specs.VariableReader.{locks_of, names_of}
use Rattle.litmus_parse.proofs.condition.Condition.+proposition.Given as goal

abbrev pub decreases-negation : goal.decreases-negation
decreases-negation l = 3 * count_left l.self.now.cursor

abbrev pub decreases-conjunction : goal.decreases-conjunction
decreases-conjunction l = 3 * count_left l.self.now.cursor + 1

abbrev pub decreases-disjunction : goal.decreases-disjunction
decreases-disjunction l = 3 * count_left l.self.now.cursor + 2

abbrev pub invariant-conjunction-loop-self : goal.invariant-conjunction-loop-self
invariant-conjunction-loop-self l = record {
  moves : count_left l.self.cursor < count_left l.fn.self.cursor;
  stays : l.self.declarations ≡ l.fn.self.declarations;
  sized : vec_len l.self.processes ≡ vec_len l.fn.self.processes;
  reads : conjunction_at (names_of l.fn.self.declarations) (locks_of l.fn.self.declarations) l.depth (asked_of l.fn.self l.fn.operators)
      ≡ and_more_at (names_of l.fn.self.declarations) (locks_of l.fn.self.declarations) l.depth (proposition_of l.left)
      (asked_of l.self l.operators);
}

abbrev pub decreases-conjunction-loop-self : goal.decreases-conjunction-loop-self
decreases-conjunction-loop-self l = count_left l.self.cursor

abbrev pub invariant-disjunction-loop-self : goal.invariant-disjunction-loop-self
invariant-disjunction-loop-self l = record {
  moves : count_left l.self.cursor < count_left l.fn.self.cursor;
  stays : l.self.declarations ≡ l.fn.self.declarations;
  sized : vec_len l.self.processes ≡ vec_len l.fn.self.processes;
  reads : disjunction_at (names_of l.fn.self.declarations) (locks_of l.fn.self.declarations) l.depth (asked_of l.fn.self l.fn.operators)
      ≡ or_more_at (names_of l.fn.self.declarations) (locks_of l.fn.self.declarations) l.depth (proposition_of l.left)
      (asked_of l.self l.operators);
}

abbrev pub decreases-disjunction-loop-self : goal.decreases-disjunction-loop-self
decreases-disjunction-loop-self l = count_left l.self.cursor
