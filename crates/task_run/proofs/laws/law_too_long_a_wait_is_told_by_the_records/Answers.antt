-- By the part that waits.
use Rattle.task_run.proofs.StuckLemmas.{stuck_by_records}
use Rattle.task_run.proofs.laws.law_too_long_a_wait_is_told_by_the_records.Goals as goal

pub returns : goal.returns
returns c = stuck_by_records
