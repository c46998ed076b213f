-- by what each task's text does
use Rattle.log_correctness.proofs.ChecksAndOutcomes.{begun_fits}
use Rattle.log_correctness.proofs.watched.law_accesses_that_begin_fit.Goals as goal

pub returns : goal.returns
returns c = λ run records list a. begun_fits run records list (c.law_executions_tell_runs_of_the_program.ensures run records list).tasks a
