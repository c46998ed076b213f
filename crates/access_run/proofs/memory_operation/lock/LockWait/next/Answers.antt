-- A try is the only step of a task that hasn't the lock.
use Rattle.std.proofs.Common.{◌≡◌, true, false, inl, inr, refl}
use Rattle.access_run.proofs.memory_operation.LockLemmas.{not_taken, only_try, taken_whole}
use Rattle.access_run.proofs.memory_operation.lock.LockWait.next.Goals as goal
use Rattle.access_run.proofs.memory_operation.lock.LockWait.next.Goals.{then-self-via-then-self, then-self-via-else-self+then-stuck}

pub returns-then-self-clause-none : goal.returns-then-self-clause-none
returns-then-self-clause-none c = λ task lock records leads. (
  λ h. elim c.then-self.branch [
    | then-self-via-then-self w ↦ inl (taken_whole task lock records c.args.self.now leads w.if-self.true)
    | then-self-via-else-self+then-stuck w ↦ inr ((w.stuck.ensures task lock records leads).0 w.if-stuck.true)
  ],
  λ h. refl,
)

pub returns-clause-none : goal.returns-clause-none
returns-clause-none c = λ task lock records leads. (
  λ h. absurd (cc),
  λ h. elim h [
    | inl whole ↦ absurd (not_taken task lock records c.args.self.now leads c.if-self.false whole)
    | inr stuck ↦ absurd (let is_stuck : c.stuck.result ≡ true = (c.stuck.ensures task lock records leads).1 stuck in
        let going : c.stuck.result ≡ false = c.if-stuck.false in cc)
  ],
)

pub returns-clause-only : goal.returns-clause-only
returns-clause-only c = λ task lock records leads.
    only_try task lock records c.args.self.now leads _ (c.if-self.false, refl)
