-- The example is put together in the lemma.
use Rattle.worked_examples.proofs.example_grammar.Spelled.{loads-spelled}
use Rattle.worked_examples.proofs.example_grammar.laws.law_loads_stand_in_expressions.Goals as goal

pub returns : goal.returns
returns c = loads-spelled
