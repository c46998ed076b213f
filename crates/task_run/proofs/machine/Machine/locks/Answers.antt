-- The part is the tries of the lock.
use Rattle.std.proofs.Common.{◌≡◌, ◌∙◌, false, sym, true}
use Rattle.task_run.proofs.BeginLemmas.{begins_locking}
use Rattle.task_run.proofs.StopLemmas.{locking_never}
use Rattle.task_run.proofs.machine.Machine.locks.Goals as goal

pub returns-clause-begins : goal.returns-clause-begins
returns-clause-begins c = λ s site. begins_locking s site c.args.variable c.args.self.now c.lock_number.result c.new-wait.result
    (c.is_lock_at.ensures.0 c.if-not-is_lock_at.false) (c.lock_number.ensures.stands s) c.new-wait.ensures

pub returns-then-not-is_lock_at-clause-stops : goal.returns-then-not-is_lock_at-clause-stops
returns-then-not-is_lock_at-clause-stops c = λ s site. locking_never s site c.args.variable c.args.self.now
    (λ there. let no : false ≡ true = sym c.if-not-is_lock_at.true ∙ c.is_lock_at.ensures.1 there in cc)
