-- The part of the records that takes the lock does so before whatever follows.
use Rattle.access_run.specs.memory_operation.Locks.{TakesLock}
use Rattle.access_run.proofs.memory_operation.FrameLemmas.{lock_front}
use Rattle.access_run.proofs.memory_operation.Fronts.{framed}
use Rattle.access_run.proofs.memory_operation.laws.law_tries_of_a_lock_are_framed.Goals as goal

pub returns : goal.returns
returns c = λ task lock. framed (λ records rest. TakesLock task lock records rest) (lock_front task lock)
