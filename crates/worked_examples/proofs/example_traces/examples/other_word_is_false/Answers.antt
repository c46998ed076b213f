use Rattle.worked_examples.proofs.example_traces.VersionTwo.{other_word_false}
use Rattle.worked_examples.proofs.example_traces.examples.other_word_is_false.Goals as goal

pub returns : goal.returns
returns c = other_word_false
