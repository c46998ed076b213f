-- the clock goes on by one at each of its steps, of which a task makes two for each access
use Rattle.std.proofs.Common.{◌<◌, ◌^◌, refl, subst}
use Rattle.executions.specs.execution.Run.{first_words}
use Rattle.soundness.proofs.Watches.{is_below}
use Rattle.slot_table.specs.Records.{Legal}
use Rattle.log_correctness.specs.Stamps.{stamps_in}
use Rattle.log_correctness.proofs.Clock.{answers_count, few_stamps}
use Rattle.log_correctness.proofs.watched.law_stamps_tell_the_order.Goals as goal

few_of : goal.returns-clause-few
few_of c = λ run records list keeps. few_stamps run records list (c.law_records_tell_their_events.ensures.each run records list)
    (c.law_records_tell_their_events.ensures.first run records list) c.law_few_accesses_begin.ensures.limits keeps
    (λ later earlier latest is. is_below run records list latest earlier later is)

pub returns-clause-answers : goal.returns-clause-answers
returns-clause-answers c = λ run records list keeps later earlier latest is. answers_count (first_words run) later latest earlier refl
    (subst (Legal (first_words run)) is list.legal) (subst (λ r. stamps_in r < 2 ^ 64) is (few_of c run records list keeps))

pub returns-clause-few : goal.returns-clause-few
returns-clause-few c = few_of c
