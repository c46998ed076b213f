-- The lock is free at once.
use Rattle.access_run.proofs.AccessEnds.{lock_ends, some_tries}
use Rattle.access_run.proofs.completions.law_tries_of_a_lock_can_be_completed.Goals as goal

pub returns-clause-leads : goal.returns-clause-leads
returns-clause-leads c = lock_ends

pub returns-clause-first : goal.returns-clause-first
returns-clause-first c = some_tries
