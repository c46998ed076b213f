-- A plain load takes an integer.
use Rattle.std.proofs.Common.{refl}
use Rattle.worked_examples.proofs.example_grammar.Refused.{no_atomic_statement}
use Rattle.worked_examples.proofs.example_grammar.laws.law_a_plain_load_of_an_atomic_is_no_statement.Goals as goal

pub returns : goal.returns
returns c depth counters before s rest after is = no_atomic_statement is refl
