-- The example is put together in the lemma.
use Rattle.worked_examples.proofs.example_grammar.Spelled.{differences-spelled}
use Rattle.worked_examples.proofs.example_grammar.laws.law_differences_group_from_the_left.Goals as goal

pub returns : goal.returns
returns c = differences-spelled
