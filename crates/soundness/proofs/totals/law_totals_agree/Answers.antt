-- By what each task has in hand, by the bags, and by what each record settles.
use Rattle.soundness.proofs.Agree.{totals}
use Rattle.soundness.proofs.totals.law_totals_agree.Goals as goal

pub returns : goal.returns
returns c = λ run records list ended.
    totals run records list (c.law_executions_keep_the_discipline.ensures.keeps run records list)
    (c.law_executions_keep_the_discipline.ensures.finished run records ended) (c.law_roles_of_executions.ensures.heard run records list)
    (c.law_roles_of_executions.ensures.bags run records list ended) (c.law_outcomes_fall_where_they_are_settled.ensures run records list)
