-- The call is that of its arm.
use Rattle.oracle_semantics.proofs.oracle_order.text.calls.Goals as goal

pub returns-in-Lock : goal.returns-in-Lock
returns-in-Lock c = λ s site is. rw c.in-Lock.is (c.locks.ensures s site is)

pub returns-in-Unlock : goal.returns-in-Unlock
returns-in-Unlock c = λ s site is. rw c.in-Unlock.is (c.unlocks.ensures s site is)
