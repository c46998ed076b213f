-- An access ends by a step of the clock, which its task makes with nothing in hand.
use Rattle.soundness.proofs.Ended.{ended_over, taking_stands}
use Rattle.soundness.proofs.histories.law_takings_of_ended_accesses_have_one_answer.Goals as goal
use Rattle.slot_table.specs.Hearings.{IsTaking}

pub returns : goal.returns
returns c = λ run records list index number setter word finder taken_word arming taking.
    let rules = c.law_executions_keep_the_discipline.ensures.keeps run records list in
    let over = ended_over run records list index number setter word finder taken_word _ rules.keeps (c.law_roles_of_executions.ensures.met run records list)
    (c.law_roles_of_executions.ensures.table run records list index) (c.law_records_tell_their_events.ensures.each run records list) arming taking in
    c.law_each_taking_has_one_answer.ensures.over run records list index number
    (record { finder = finder; word = taken_word; taking = taking_stands run records list (IsTaking index number finder taken_word) taking }) over
