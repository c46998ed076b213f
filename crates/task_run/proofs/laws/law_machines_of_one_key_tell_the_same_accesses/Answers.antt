-- What tells them is in the key.
use Rattle.task_run.proofs.KeyAccesses.{key_accesses}
use Rattle.task_run.proofs.laws.law_machines_of_one_key_tell_the_same_accesses.Goals as goal

pub returns : goal.returns
returns c = key_accesses
