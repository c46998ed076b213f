-- A try that was accepted ends the wait, and one that was refused is counted.
use Rattle.std.proofs.Common.{◌≡◌, ◌∙◌, true, false, ap, refl}
use Rattle.slot_table.specs.declared.step.Answer.TheVariants.{Flag}
use Rattle.access_run.proofs.memory_operation.LockLemmas.{lock_on}
use Rattle.access_run.proofs.memory_operation.lock.LockWait.answer.Goals as goal

pub returns-in-Flag-true : goal.returns-in-Flag-true
returns-in-Flag-true c = λ task lock records step leads says.
    lock_on task lock records c.args.self.now _ step c.args.answer true leads says
    (c.in-Flag-true.is ∙ ap Flag c.in-Flag-true.field-0-test) refl refl refl
    (λ never. absurd (let other : true ≡ false = never in cc))

pub returns-in-Flag-false : goal.returns-in-Flag-false
returns-in-Flag-false c = λ task lock records step leads says.
    lock_on task lock records c.args.self.now _ step c.args.answer false leads says
    (c.in-Flag-false.is ∙ ap Flag c.in-Flag-false.field-0-test) refl refl says.0 (λ same. c.saturating_add-self.ensures)
