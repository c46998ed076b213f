-- One mark, and the others after it.
use Rattle.std.proofs.Common.{◌≡◌, ◌-◌, ◌∙◌, IfOk, ap, replicate, subst}
use Rattle.access_types.specs.declared.history.Happening.TheVariants as happenings
use Rattle.litmus_semantics.specs.Task.{Progress, doing}
use Rattle.oracle_semantics.proofs.oracle_meaning.StepLemmas.{doing_more}
use Rattle.oracle_semantics.specs.oracle_meaning.Walks.{stands}
use Rattle.oracle_semantics.proofs.oracle_meaning.load.+marks.Goals as goal

pub returns-clause-comes : goal.returns-clause-comes
returns-clause-comes t c =
    let each = happenings.Mark c.args.mark in
    subst (λ (p : Progress). IfOk c.marks.result (λ after. stands after ≡ p))
    (ap (λ (p : Progress). doing p (replicate (c.args.count - 1) each)) c.in_ok-doing.ensures.comes
    ∙ doing_more (stands c.args.walk) each c.args.count c.if-count-eq0.false)
    c.marks.ensures.comes
