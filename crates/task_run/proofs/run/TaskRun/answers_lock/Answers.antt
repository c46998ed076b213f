-- The tries go on, or the lock is taken and what is left of the text follows.
use Rattle.std.proofs.Common.{◌≡◌, ◌∙◌, false, subst, sym, true}
use Rattle.setup_access.specs.Parts.{made}
use Rattle.task_run.proofs.RunLemmas.{lock_ended, lock_inside}
use Rattle.task_run.specs.Says.{StageSays}
use Rattle.task_run.proofs.run.TaskRun.answers_lock.Goals as goal

pub returns-then-is_taken-clause-leads : goal.returns-then-is_taken-clause-leads
returns-then-is_taken-clause-leads c = λ s registers body records step leads says.
    lock_ended s registers body records c.args.self.now leads (made s.text.task step c.args.answer) c.in-Locking.wait c.answer.new.self c.in-Locking.variable c.in-Locking.is
    (λ lock so_far l. c.answer.ensures s.text.task lock so_far step l (subst (λ stage. StageSays stage c.args.self.now step) c.in-Locking.is says))
    (λ lock so_far l. (c.is_taken.ensures.records s.text.task lock so_far l).0 c.if-is_taken.true)
    c.set_lock.new.self (λ variables before later keeps below. c.set_lock.ensures.keeps variables before later keeps below) _
    (λ before stands. c.advance.ensures.begins s before stands)

pub returns-else-is_taken-clause-leads : goal.returns-else-is_taken-clause-leads
returns-else-is_taken-clause-leads c = λ s registers body records step leads says.
    lock_inside s registers body records c.args.self.now leads (made s.text.task step c.args.answer) c.in-Locking.wait c.answer.new.self c.in-Locking.variable c.in-Locking.is
    (λ lock so_far l. c.answer.ensures s.text.task lock so_far step l (subst (λ stage. StageSays stage c.args.self.now step) c.in-Locking.is says))
    (λ lock so_far l taken. absurd (let no : false ≡ true = sym c.if-is_taken.false ∙ (c.is_taken.ensures.records s.text.task lock so_far l).1 taken in cc))
