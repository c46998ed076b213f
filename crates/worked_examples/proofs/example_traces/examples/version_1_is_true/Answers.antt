use Rattle.worked_examples.proofs.example_traces.Traces.{version_1_true}
use Rattle.worked_examples.proofs.example_traces.examples.version_1_is_true.Goals as goal

pub returns : goal.returns
returns c = version_1_true
