-- By induction on the text, and for the next step by the record that completes it.
use Rattle.std.proofs.Common.{length}
use Rattle.task_plan.proofs.task_laws.Next.{next_answer}
use Rattle.task_plan.proofs.task_laws.Texts.{another_answer}
use Rattle.task_plan.proofs.task_laws.laws.law_an_answer_leads_on.Goals as goal

pub returns-clause-another : goal.returns-clause-another
returns-clause-another c = another_answer

pub returns-clause-next : goal.returns-clause-next
returns-clause-next c = λ s task records step answer placed keeps fits written only.
    next_answer s (length task.registers) task.body records step answer fits
    (λ first other later alike whole. another_answer s task records first other later placed keeps alike whole) written only
