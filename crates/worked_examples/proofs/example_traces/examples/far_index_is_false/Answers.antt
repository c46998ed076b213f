use Rattle.worked_examples.proofs.example_traces.VersionTwo.{far_index_false}
use Rattle.worked_examples.proofs.example_traces.examples.far_index_is_false.Goals as goal

pub returns : goal.returns
returns c = far_index_false
