-- The example is put together in the lemma.
use Rattle.worked_examples.proofs.example_grammar.SmallProgram.{small-spelled}
use Rattle.worked_examples.proofs.example_grammar.laws.law_a_small_program_is_spelled.Goals as goal

pub returns : goal.returns
returns c = small-spelled
