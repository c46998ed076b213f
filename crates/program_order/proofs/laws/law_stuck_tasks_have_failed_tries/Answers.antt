-- By an induction on the text, and one on the records.
use Rattle.program_order.proofs.FailedTries.{stuck_by_failed_tries, tries_are_failed}
use Rattle.program_order.proofs.laws.law_stuck_tasks_have_failed_tries.Goals as goal

pub returns-clause-tries : goal.returns-clause-tries
returns-clause-tries c = tries_are_failed

pub returns-clause-stuck : goal.returns-clause-stuck
returns-clause-stuck c = stuck_by_failed_tries
