-- By the answers that end it soonest.
use Rattle.access_run.proofs.CheckEnds.{check_ends, some_check, some_close}
use Rattle.access_run.proofs.completions.law_checks_can_be_completed.Goals as goal

pub returns-clause-leads : goal.returns-clause-leads
returns-clause-leads c = check_ends

pub returns-clause-check : goal.returns-clause-check
returns-clause-check c = some_check

pub returns-clause-close : goal.returns-clause-close
returns-clause-close c = some_close
