-- By what came before the begin, of its own task alone.
use Rattle.log_correctness.proofs.Deciding.{stamped_so}
use Rattle.log_correctness.proofs.logs.law_a_log_says_of_accesses_what_the_history_decides.Goals as goal

pub returns : goal.returns
returns c = λ run records list task noted notes.
    stamped_so run records list (c.law_records_tell_their_events.ensures.each run records list) task noted notes
