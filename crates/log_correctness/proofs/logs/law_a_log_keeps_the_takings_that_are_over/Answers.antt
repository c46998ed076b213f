-- Tell by tell.
use Rattle.log_correctness.proofs.Numbering.{kept_takes}
use Rattle.log_correctness.proofs.logs.law_a_log_keeps_the_takings_that_are_over.Goals as goal

pub returns : goal.returns
returns c = λ run records list task noted notes. kept_takes (list.tasks task) task records noted notes
