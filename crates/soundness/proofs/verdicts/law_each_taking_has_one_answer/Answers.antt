-- By counting, index by index: what setters heard is answered, and what they hear until they clear. What was taken and
-- is in nobody's hand was told and heard.
use Rattle.executions.specs.execution.Run.{first_cells, locks_of}
use Rattle.soundness.proofs.Endings.{heard_of, timed}
use Rattle.soundness.proofs.Takings.{has_one_answer, is_answered}
use Rattle.soundness.proofs.verdicts.law_each_taking_has_one_answer.Goals as goal

pub returns-clause-heard : goal.returns-clause-heard
returns-clause-heard c = λ run records list. has_one_answer run records list (c.law_executions_keep_the_discipline.ensures.keeps run records list)

pub returns-clause-over : goal.returns-clause-over
returns-clause-over c = λ run records list index number taken over.
    let rules = c.law_executions_keep_the_discipline.ensures.keeps run records list in
    is_answered run records list rules index number
    (heard_of index run.rules.slots (locks_of run) (first_cells run) number taken.finder records taken.word rules taken.taking over)

pub returns-clause-timed : goal.returns-clause-timed
returns-clause-timed c = λ run latest earlier list clock.
    timed run.rules.slots (locks_of run) (first_cells run) latest earlier (c.law_executions_keep_the_discipline.ensures.keeps run _ list) clock
