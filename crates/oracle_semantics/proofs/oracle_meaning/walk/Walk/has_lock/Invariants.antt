-- whether the task has the lock after what the loop has passed
use Rattle.std.proofs.Common.{◌≡◌, take}
use Rattle.litmus_semantics.specs.Task.{has_lock}
use Rattle.oracle_semantics.proofs.oracle_meaning.walk.Walk.has_lock.Given as goal

abbrev pub invariant-loop-happening : goal.invariant-loop-happening
invariant-loop-happening l = l.has ≡ has_lock l.lock (take l.happening-index l.happening-items)
