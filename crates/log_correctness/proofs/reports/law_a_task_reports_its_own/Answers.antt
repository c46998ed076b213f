-- A task names itself by tickets of its own.
use Rattle.log_correctness.proofs.Reported.{own_reports}
use Rattle.log_correctness.proofs.reports.law_a_task_reports_its_own.Goals as goal

pub returns : goal.returns
returns c = λ run records list task noted notes.
    own_reports run records list (c.law_executions_keep_the_discipline.ensures.keeps run records list) (c.law_verdicts_are_on_watches.ensures run records list)
    (c.law_answers_are_to_takings.ensures run records list)
    (λ t made. c.law_one_outcome_a_record.ensures _ _ _ _ (list.tasks t) made) task noted notes
