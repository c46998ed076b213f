-- The step of the stage is the only one that what is left goes on with.
use Rattle.std.proofs.Common.{◌≡◌, true, false, inr, refl}
use Rattle.access_run.proofs.memory_operation.LeadsLemmas.{if_some, none_said, only_step}
use Rattle.access_run.proofs.memory_operation.run.OperationRun.next.Goals as goal

pub returns-then-stuck-clause-none : goal.returns-then-stuck-clause-none
returns-then-stuck-clause-none c = λ task a source operation records leads.
    (λ h. inr ((c.stuck.ensures task a source operation records leads).0 c.if-stuck.true), λ h. refl)

pub returns-clause-none : goal.returns-clause-none
returns-clause-none c = λ task a source operation records leads.
    none_said task a source operation records c.args.self.now leads c.args.turns c.step.result c.step.ensures
    (λ stuck. let is_stuck : c.stuck.result ≡ true = (c.stuck.ensures task a source operation records leads).1 stuck in
    let going : c.stuck.result ≡ false = c.if-stuck.false in cc)

pub returns-clause-only : goal.returns-clause-only
returns-clause-only c = λ task a source operation records leads.
    if_some c.step.result _ (λ step is. only_step task a source operation records c.args.self.now leads step (rw (← c.step.ensures) is))
