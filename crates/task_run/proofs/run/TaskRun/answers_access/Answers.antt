-- The access goes on, or is over, and what follows on it and is left of the text follows.
use Rattle.std.proofs.Common.{◌≡◌, ◌∙◌, ◌++◌, ◌∷◌, [], List, ap, false, slice_get, subst, sym, true}
use Rattle.setup_access.specs.Shown.{outcomes_of}
use Rattle.task_run.proofs.NewsLemmas.{making_fell}
use Rattle.setup_access.specs.Parts.{made}
use Rattle.setup_access.specs.declared.outcome.Outcome.{Outcome}
use Rattle.task_run.proofs.RunLemmas.{access_ended, access_inside}
use Rattle.task_run.proofs.TellLemmas.{keeping}
use Rattle.task_run.proofs.WaitLemmas.{access_no_try, no_try_no_wait}
use Rattle.task_plan.specs.declared.follow.Then.{Then}
use Rattle.task_run.specs.Says.{StageSays}
use Rattle.task_run.specs.declared.stage.TaskStage.TheVariants as stages
use Rattle.task_run.proofs.run.TaskRun.answers_access.Goals as goal
use Rattle.program_order.specs.Standing.{checks_of}

pub returns-in-Making-stage-clause-leads : goal.returns-in-Making-stage-clause-leads
returns-in-Making-stage-clause-leads c = λ s registers body records step leads says.
    let both : stages.Making c.answers_access.new.run c.in-Making.field-1 ≡ stages.Making c.in-Making-stage.field-0 c.in-Making-stage.after = c.in-Making-stage.is in
    let same : c.in-Making.field-1 ≡ c.in-Making-stage.after = cc in
    let is : c.args.self.now.stage ≡ stages.Making c.in-Making.run' c.in-Making-stage.after =
    subst (λ (x : Then). c.args.self.now.stage ≡ stages.Making c.in-Making.run' x) same c.in-Making.is in
    let checker = c.answers_access.new.self.checker in
    access_ended s registers body records c.args.self.now leads (made s.text.task step c.args.answer) c.in-Making.run' c.answers_access.new.run c.in-Making-stage.after
    c.answers_access.new.self is c.answers_access.ensures.kept c.answers_access.ensures.context
    (λ scopes begun asked operation so_far sites l. c.answers_access.ensures.leads (checks_of s) scopes begun asked operation so_far step sites l
    (subst (λ stage. StageSays stage c.args.self.now step) is says))
    (no_try_no_wait step c.args.answer (access_no_try c.args.self.now.machine.checker c.in-Making.run'.stage step
    (subst (λ stage. StageSays stage c.args.self.now step) is says)))
    c.effect-effect.result
    (λ scopes begun asked operation so_far l. c.effect-effect.ensures.complete (checks_of s) scopes begun asked operation so_far checker l
    ((c.is_over.ensures (checks_of s) scopes begun asked operation so_far checker l).0 c.if-is_over.true))
    c.follows.new.self (λ before stands read. c.follows.ensures.stands s before stands read) _
    (λ before stands. c.advance.ensures.begins s before stands)

pub returns-else-is_over-clause-leads : goal.returns-else-is_over-clause-leads
returns-else-is_over-clause-leads c = λ s registers body records step leads says.
    keeping s registers body (records ++ made s.text.task step c.args.answer ∷ []) _ c.tell_newest.new.self
    (access_inside s registers body records c.args.self.now leads (made s.text.task step c.args.answer) c.in-Making.run' c.answers_access.new.run c.in-Making.field-1
    c.answers_access.new.self c.in-Making.is c.answers_access.ensures.kept c.answers_access.ensures.context
    (λ scopes begun asked operation so_far sites l. c.answers_access.ensures.leads (checks_of s) scopes begun asked operation so_far step sites l
    (subst (λ stage. StageSays stage c.args.self.now step) c.in-Making.is says))
    (λ scopes begun asked operation so_far l done. absurd (let no : false ≡ true = sym c.if-is_over.false
    ∙ (c.is_over.ensures (checks_of s) scopes begun asked operation so_far c.answers_access.new.self.checker l).1 done in cc))
    c.answers_access.ensures.begun)

pub returns-in-Making-stage-clause-fell : goal.returns-in-Making-stage-clause-fell
returns-in-Making-stage-clause-fell c = λ s registers body records step leads says later.
    making_fell s registers body records c.args.self.now leads (made s.text.task step c.args.answer) c.answers_access.new.self c.tell_newest.new.self.fell
    (c.tell_newest.ensures.fell ∙ ap (λ (l : List Outcome). slice_get l c.outcome_count-came.result) c.outcomes-outcomes.ensures.value
    ∙ ap (λ n. slice_get (outcomes_of c.answers_access.new.self.checker) n) c.outcome_count-came.ensures)
    later c.in-Making.run' c.answers_access.new.run c.in-Making.field-1 c.in-Making.is
    (λ scopes begun asked operation so_far sites l. c.answers_access.ensures.leads (checks_of s) scopes begun asked operation so_far step sites l
    (subst (λ stage. StageSays stage c.args.self.now step) c.in-Making.is says))

pub returns-else-is_over-clause-fell : goal.returns-else-is_over-clause-fell
returns-else-is_over-clause-fell c = λ s registers body records step leads says later.
    making_fell s registers body records c.args.self.now leads (made s.text.task step c.args.answer) c.answers_access.new.self c.tell_newest.new.self.fell
    (c.tell_newest.ensures.fell ∙ ap (λ (l : List Outcome). slice_get l c.outcome_count-came.result) c.outcomes-outcomes.ensures.value
    ∙ ap (λ n. slice_get (outcomes_of c.answers_access.new.self.checker) n) c.outcome_count-came.ensures)
    later c.in-Making.run' c.answers_access.new.run c.in-Making.field-1 c.in-Making.is
    (λ scopes begun asked operation so_far sites l. c.answers_access.ensures.leads (checks_of s) scopes begun asked operation so_far step sites l
    (subst (λ stage. StageSays stage c.args.self.now step) c.in-Making.is says))
