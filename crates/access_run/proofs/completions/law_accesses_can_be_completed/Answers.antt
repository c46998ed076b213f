-- Check, operation and end, by the answers that end each soonest.
use Rattle.access_run.proofs.AccessEnds.{access_ends, some_access}
use Rattle.access_run.proofs.completions.law_accesses_can_be_completed.Goals as goal

pub returns-clause-leads : goal.returns-clause-leads
returns-clause-leads c = λ s scopes begun asked operation records run checker leads.
    access_ends s scopes begun asked operation records run.stage checker leads.stage

pub returns-clause-first : goal.returns-clause-first
returns-clause-first c = some_access
