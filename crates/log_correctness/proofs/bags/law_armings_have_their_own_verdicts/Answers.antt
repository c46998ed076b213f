-- Record by record.
use Rattle.log_correctness.proofs.ArmingsHaveVerdicts.{own_verdicts}
use Rattle.log_correctness.proofs.bags.law_armings_have_their_own_verdicts.Goals as goal

pub returns : goal.returns
returns c = λ run records later earlier list task arms is are.
    own_verdicts run records list (c.law_executions_keep_the_discipline.ensures.keeps run records list) (c.law_verdicts_are_on_watches.ensures run records list)
    later earlier task arms is are
