-- The example is put together in the lemma.
use Rattle.worked_examples.proofs.example_grammar.Spelled.{masks-spelled}
use Rattle.worked_examples.proofs.example_grammar.laws.law_masks_are_weaker_than_comparisons.Goals as goal

pub returns : goal.returns
returns c = masks-spelled
