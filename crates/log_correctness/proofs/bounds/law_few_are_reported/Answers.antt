-- Task by task: a report is made of an outcome.
use Rattle.log_correctness.proofs.Lists.{few_reports, few_reports_by_text, keeps_body}
use Rattle.log_correctness.proofs.bounds.law_few_are_reported.Goals as goal

pub returns-clause-text : goal.returns-clause-text
returns-clause-text c = λ run records list keeps. few_reports_by_text run records list (λ task there.
    c.law_few_outcomes_fall.ensures.text _ _ _ _ (keeps_body run keeps task there) (list.tasks task).whole)

pub returns-clause-limits : goal.returns-clause-limits
returns-clause-limits c = λ run records list keeps. few_reports run records list 9216 (λ task there.
    c.law_few_outcomes_fall.ensures.limits _ _ _ _ (keeps_body run keeps task there) (list.tasks task).whole)
