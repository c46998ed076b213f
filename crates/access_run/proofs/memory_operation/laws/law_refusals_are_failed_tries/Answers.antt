-- By an induction on the records.
use Rattle.access_run.proofs.memory_operation.RefusalLemmas.{as_many}
use Rattle.access_run.proofs.memory_operation.laws.law_refusals_are_failed_tries.Goals as goal

pub returns : goal.returns
returns c = as_many
