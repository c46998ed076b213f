-- The clock rises with the list.
use Rattle.log_correctness.proofs.Rising.{in_order}
use Rattle.log_correctness.proofs.accesses.law_a_log_keeps_just_the_accesses.Goals as goal

pub returns : goal.returns
returns c = λ run records list task noted keeps notes. record {
  spans = c.law_a_log_keeps_the_accesses_that_have_ended.ensures.spans run records list task noted notes;
  decided = c.law_a_log_says_of_accesses_what_the_history_decides.ensures run records list task noted notes;
  all = c.law_a_log_keeps_the_accesses_that_have_ended.ensures.all run records list task noted notes;
  many = c.law_a_log_keeps_the_accesses_that_have_ended.ensures.many run records list task noted notes;
  ordered = in_order run records list task (λ later earlier latest is clock. c.law_stamps_tell_the_order.ensures.answers run records list keeps later earlier latest is clock)
      noted notes;
}
