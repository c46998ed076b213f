use Rattle.worked_examples.proofs.example_traces.VersionTwo.{apart_false}
use Rattle.worked_examples.proofs.example_traces.examples.apart_is_false.Goals as goal

pub returns : goal.returns
returns c = apart_false
