-- as many records as are left
use Rattle.std.proofs.Common.{length}
use Rattle.oracle_semantics.proofs.oracle_order.locks.+takes_lock.Given as goal

abbrev pub decreases-takes_lock : goal.decreases-takes_lock
decreases-takes_lock l = length l.before.left.items
