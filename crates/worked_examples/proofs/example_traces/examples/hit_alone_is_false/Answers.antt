use Rattle.worked_examples.proofs.example_traces.VersionTwo.{hit_alone_false}
use Rattle.worked_examples.proofs.example_traces.examples.hit_alone_is_false.Goals as goal

pub returns : goal.returns
returns c = hit_alone_false
