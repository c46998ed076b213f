-- The part is the step that gives the lock back, or there is none.
use Rattle.std.proofs.Common.{◌∙◌, length, refl, sym}
use Rattle.task_plan.proofs.KeepsLemmas.{keeps_alike}
use Rattle.task_run.proofs.BeginLemmas.{begins_unlocking, ends_unlocking}
use Rattle.task_run.proofs.StandsLemmas.{stands_keeping}
use Rattle.task_run.proofs.machine.Machine.unlocks.Goals as goal
use Rattle.program_order.specs.Standing.{coming, counting}
use Rattle.std.proofs.Common.{true}

pub returns-then-has_lock-clause-begins : goal.returns-then-has_lock-clause-begins
returns-then-has_lock-clause-begins c = λ s site. begins_unlocking s site c.args.variable c.args.self.now
    (λ before stands. sym (c.has_lock.ensures (length s.text.variables) before stands.counts.keeps) ∙ c.if-has_lock.true)

pub returns-clause-begins : goal.returns-clause-begins
returns-clause-begins c = λ s site. ends_unlocking s site c.args.variable c.args.self.now _ refl
    (λ before stands. sym (c.has_lock.ensures (length s.text.variables) before stands.counts.keeps) ∙ c.if-has_lock.false)
    (λ before later stands. stands_keeping s before (coming (counting true before) later before.progress) c.args.self.now c.counts_unbalanced.new.self refl refl refl
    (keeps_alike (length s.text.variables) (counting true before) (coming (counting true before) later before.progress) c.counts_unbalanced.new.self
    (record { progress = refl; unbalanced = refl }) (c.counts_unbalanced.ensures.keeps (length s.text.variables) before stands.counts.keeps)) stands)
