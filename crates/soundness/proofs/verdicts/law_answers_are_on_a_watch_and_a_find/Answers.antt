-- By then the setter has its arming in hand and has heard the pair, and who told of it is the finder.
use Rattle.soundness.proofs.Joined.{all_both}
use Rattle.soundness.proofs.verdicts.law_answers_are_on_a_watch_and_a_find.Goals as goal

pub returns : goal.returns
returns c = λ run records list.
    all_both run records list (c.law_executions_keep_the_discipline.ensures.keeps run records list) (c.law_answers_are_to_takings.ensures run records list)
    (c.law_verdicts_are_on_watches.ensures run records list) (c.law_outcomes_fall_where_they_are_settled.ensures run records list)
    (c.law_tellings_are_on_finds.ensures run records list)
