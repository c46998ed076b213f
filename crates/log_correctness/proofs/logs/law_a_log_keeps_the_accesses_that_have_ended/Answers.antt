-- Accesses of a task end in the other order than they begin.
use Rattle.log_correctness.proofs.Ends.{each_end_kept}
use Rattle.log_correctness.proofs.Spanning.{as_many_ended, spans}
use Rattle.log_correctness.proofs.logs.law_a_log_keeps_the_accesses_that_have_ended.Goals as goal

pub returns-clause-spans : goal.returns-clause-spans
returns-clause-spans c = λ run records list task noted notes.
    spans run records list task (c.law_records_tell_their_events.ensures.first run records list task) noted notes
    (c.law_records_tell_their_events.ensures.each run records list)

pub returns-clause-many : goal.returns-clause-many
returns-clause-many c = λ run records list task noted notes.
    as_many_ended run records list task (c.law_records_tell_their_events.ensures.first run records list task) noted notes
    (c.law_records_tell_their_events.ensures.each run records list)

pub returns-clause-all : goal.returns-clause-all
returns-clause-all c = λ run records list task noted notes.
    each_end_kept run records list task (c.law_records_tell_their_events.ensures.first run records list task) noted notes
    (c.law_records_tell_their_events.ensures.each run records list)
