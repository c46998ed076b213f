-- Without the lock, each try so far failed.
use Rattle.std.proofs.Common.{arith}
use Rattle.std.proofs.lemmas.Bool.{le-leb, leb-true}
use Rattle.access_run.proofs.memory_operation.LockLemmas.{not_stuck_taken, stuck_at_lock}
use Rattle.access_run.proofs.memory_operation.lock.LockWait.stuck.Goals as goal

pub returns-then-self : goal.returns-then-self
returns-then-self c = λ task lock records leads. (
  λ h. absurd (cc),
  λ h. absurd (not_stuck_taken task lock records c.args.self.now leads c.args.turns c.if-self.true h),
)

pub returns : goal.returns
returns c = λ task lock records leads.
    let here = stuck_at_lock task lock records c.args.self.now leads c.args.turns c.if-self.false (omega arith) in
    (λ h. here.0 (leb-true c.args.turns c.args.self.now.tries h), λ h. le-leb c.args.turns c.args.self.now.tries (here.1 h))
