-- What is said by any reading of a task's records is said by that of the execution.
use Rattle.soundness.proofs.InProgress.{decided_at_end, goes_at_end}
use Rattle.soundness.proofs.in_progress.law_what_is_in_progress_at_an_end_is_so.Goals as goal

pub returns-clause-goes : goal.returns-clause-goes
returns-clause-goes c = λ run records list begun goes. goes_at_end run records list begun goes

pub returns-clause-decided : goal.returns-clause-decided
returns-clause-decided c = λ run records list begun goes. decided_at_end run records list begun goes
