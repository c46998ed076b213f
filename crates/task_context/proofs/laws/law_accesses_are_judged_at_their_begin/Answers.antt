-- there is one list of moments before the begin
use Rattle.task_context.proofs.OneBegin.{marked_at_begin, silenced_at_begin}
use Rattle.task_context.proofs.laws.law_accesses_are_judged_at_their_begin.Goals as goal

pub returns-clause-marked : goal.returns-clause-marked
returns-clause-marked c = marked_at_begin

pub returns-clause-silenced : goal.returns-clause-silenced
returns-clause-silenced c = silenced_at_begin
