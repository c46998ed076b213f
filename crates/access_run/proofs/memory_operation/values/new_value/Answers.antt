-- What is cut to some bytes fits their bits.
use Rattle.access_run.proofs.memory_operation.WordLemmas.{cut_fits}
use Rattle.access_run.proofs.memory_operation.values.new_value.Goals as goal

pub returns-clause-held : goal.returns-clause-held
returns-clause-held c = rw c.cut.ensures (cut_fits c.args.size c.match-change.value)
