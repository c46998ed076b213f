-- nothing of a text is left, and all that begins in it ends
use Rattle.log_correctness.proofs.ChecksAndOutcomes.{has_ended}
use Rattle.log_correctness.proofs.watched.law_accesses_of_ended_tasks_have_ended.Goals as goal

pub returns : goal.returns
returns c = λ run records list ended a. has_ended run records list c.law_one_telling.ensures.whole
    (c.law_executions_tell_runs_of_the_program.ensures run records list).tasks ended a
