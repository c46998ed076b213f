use Rattle.worked_examples.proofs.example_traces.VersionTwo.{version_2_true}
use Rattle.worked_examples.proofs.example_traces.examples.version_2_is_true.Goals as goal

pub returns : goal.returns
returns c = version_2_true
