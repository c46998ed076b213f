use Rattle.worked_examples.proofs.example_traces.Turns.{turns_true}
use Rattle.worked_examples.proofs.example_traces.examples.turns_are_true.Goals as goal

pub returns : goal.returns
returns c = turns_true
