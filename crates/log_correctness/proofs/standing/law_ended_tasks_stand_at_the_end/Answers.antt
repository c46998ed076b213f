-- Nothing completes the records, and the last point of a way is where the task stands.
use Rattle.std.proofs.Common.{subst, sym}
use Rattle.litmus_semantics.specs.Meaning.{MeansBlock}
use Rattle.litmus_semantics.specs.Task.{Progress}
use Rattle.log_correctness.proofs.Ended.{alone, end_progress, end_unbalanced}
use Rattle.program_order.specs.WrittenOrder.{at_first}
use Rattle.log_correctness.proofs.standing.law_ended_tasks_stand_at_the_end.Goals as goal

pub returns-clause-end : goal.returns-clause-end
returns-clause-end c = λ s registers body records written spells.
    let one = c.law_one_telling.ensures in
    let nothing = alone s registers body records written spells in
    end_progress s registers body records written spells (one.same s registers body records written nothing)
    (one.now s registers body records written)
    (one.now s registers body records nothing)

pub returns-clause-unbalanced : goal.returns-clause-unbalanced
returns-clause-unbalanced c = λ s registers body records written spells.
    let one = c.law_one_telling.ensures in
    let nothing = alone s registers body records written spells in
    end_unbalanced s registers body records written spells (one.same s registers body records written nothing)
    (one.now s registers body records written)
    (one.now s registers body records nothing)

pub returns-clause-meant : goal.returns-clause-meant
returns-clause-meant c = λ s registers body records written spells.
    let one = c.law_one_telling.ensures in
    let nothing = alone s registers body records written spells in
    let same = end_progress s registers body records written spells (one.same s registers body records written nothing)
    (one.now s registers body records written) (one.now s registers body records nothing) in
    subst (λ (p : Progress). MeansBlock s.text 0 body (at_first registers).progress p) (sym same)
    (c.law_what_is_done_is_meant.ensures.whole s registers body records spells)
