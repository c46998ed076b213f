-- Record by record.
use Rattle.access_run.proofs.memory_operation.FrameLemmas.{operation_did}
use Rattle.access_run.proofs.memory_operation.laws.law_effects_are_what_records_did.Goals as goal

pub returns : goal.returns
returns c = operation_did
