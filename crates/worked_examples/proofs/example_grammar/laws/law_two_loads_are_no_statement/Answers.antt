-- Each load names x, and an expression has one load at most.
use Rattle.std.proofs.Common.{refl}
use Rattle.worked_examples.proofs.example_grammar.Refused.{two_in_statement}
use Rattle.worked_examples.proofs.example_grammar.laws.law_two_loads_are_no_statement.Goals as goal

pub returns : goal.returns
returns c depth counters before s after is = two_in_statement is refl refl
