use Rattle.worked_examples.proofs.example_traces.VersionTwo.{taken_twice_false}
use Rattle.worked_examples.proofs.example_traces.examples.taken_twice_is_false.Goals as goal

pub returns : goal.returns
returns c = taken_twice_false
