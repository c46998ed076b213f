-- The task has the lock exactly where its records are all of the tries.
use Rattle.access_run.proofs.memory_operation.LockLemmas.{taken_alone, taken_is, taken_whole}
use Rattle.access_run.proofs.memory_operation.lock.LockWait.is_taken.Goals as goal

pub returns-clause-records : goal.returns-clause-records
returns-clause-records c = λ task lock records leads.
    (taken_whole task lock records c.args.self.now leads, taken_is task lock records c.args.self.now leads)

pub returns-clause-complete : goal.returns-clause-complete
returns-clause-complete c = λ task lock records leads whole.
    taken_alone task lock records c.args.self.now leads whole
