-- Record by record: the verdict that last fell for a task is on the arming in its hand.
use Rattle.log_correctness.proofs.Verdicts.{kept_arms_of}
use Rattle.log_correctness.proofs.logs.law_a_log_keeps_just_the_arms.Goals as goal

pub returns : goal.returns
returns c = λ run records list task noted notes.
    kept_arms_of run records list (c.law_executions_keep_the_discipline.ensures.keeps run records list) (c.law_verdicts_are_on_watches.ensures run records list) task noted
    notes
