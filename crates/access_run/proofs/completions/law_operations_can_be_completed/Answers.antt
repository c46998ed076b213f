-- By the answers that end it soonest.
use Rattle.access_run.proofs.AccessEnds.{operation_ends, some_operation}
use Rattle.access_run.proofs.completions.law_operations_can_be_completed.Goals as goal

pub returns-clause-leads : goal.returns-clause-leads
returns-clause-leads c = operation_ends

pub returns-clause-first : goal.returns-clause-first
returns-clause-first c = some_operation
