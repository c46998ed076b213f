-- The example is put together in the lemma.
use Rattle.worked_examples.proofs.example_grammar.Spelled.{factors-spelled}
use Rattle.worked_examples.proofs.example_grammar.laws.law_products_are_stronger_than_sums.Goals as goal

pub returns : goal.returns
returns c = factors-spelled
