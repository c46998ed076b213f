-- One record more leads on, whatever is kept of the last steps.
use Rattle.std.proofs.Common.{◌≡◌, ◌∙◌, ◌++◌, ◌∷◌, [], None, Option, refl, subst, sym}
use Rattle.setup_access.specs.Parts.{made}
use Rattle.setup_access.specs.declared.outcome.Outcome.{Outcome}
use Rattle.slot_table.specs.Answer.{Answers}
use Rattle.slot_table.specs.declared.step.Answer.TheVariants.{Done}
use Rattle.task_run.proofs.StageLemmas.{in_locking, in_unlocking}
use Rattle.task_run.proofs.TellLemmas.{keeping}
use Rattle.task_run.proofs.run.TaskRun.answer.Goals as goal
use Rattle.task_run.specs.Fell.{FallsInPart}
use Rattle.task_run.specs.Leads.{Leads}
use Rattle.task_run.specs.Part.{Part}
use Rattle.task_run.specs.Says.{StageSays}

pub returns-in-Opening-clause-leads : goal.returns-in-Opening-clause-leads
returns-in-Opening-clause-leads c = λ s registers body records step leads says.
    keeping s registers body (records ++ made s.text.task step c.args.answer ∷ []) c.answers_check-fell.new.self _
    (c.answers_check-fell.ensures.leads s registers body records step leads says)

pub returns-in-Opening-clause-fell : goal.returns-in-Opening-clause-fell
returns-in-Opening-clause-fell c = λ s registers body records step leads says later. subst (λ (o : Option Outcome). FallsInPart s leads.part (leads.now (leads.mine ++ made s.text.task step c.args.answer ∷ later))
    (leads.mine ++ made s.text.task step c.args.answer ∷ later) later o) (sym c.tell.ensures.fell)
    (c.answers_check-fell.ensures.fell s registers body records step leads says later)

pub returns-in-Locking-clause-leads : goal.returns-in-Locking-clause-leads
returns-in-Locking-clause-leads c = λ s registers body records step leads says.
    keeping s registers body (records ++ made s.text.task step c.args.answer ∷ []) c.answers_lock.new.self _
    (c.answers_lock.ensures.leads s registers body records step leads says)

pub returns-in-Locking-clause-fell : goal.returns-in-Locking-clause-fell
returns-in-Locking-clause-fell c = λ s registers body records step leads says later.
    let all = leads.mine ++ made s.text.task step c.args.answer ∷ later in
    subst (λ (o : Option Outcome). FallsInPart s leads.part (leads.now all) all later o) (sym c.tell-in-Locking.ensures.fell)
    (subst (λ (p : Part). FallsInPart s p (leads.now all) all later None)
    (sym (in_locking s (leads.now all) leads.mine c.args.self.now.machine c.args.self.now.stage leads.part (leads.agrees all).is_in _ _ c.in-Locking.is)) refl)

pub returns-in-Unlocking-clause-leads : goal.returns-in-Unlocking-clause-leads
returns-in-Unlocking-clause-leads c = λ s registers body records step leads says.
    let stores = subst (λ stage. StageSays stage c.args.self.now c.args.step) c.in-Unlocking.is c.requires.says in
    let done : c.args.answer ≡ Done = subst (λ x. Answers x c.args.answer) stores c.requires.answers in
    keeping s registers body (records ++ made s.text.task step c.args.answer ∷ []) c.answers_unlock.new.self _
    (subst (λ answer. Leads s registers body (records ++ made s.text.task step answer ∷ []) c.answers_unlock.new.self) (sym done)
    (c.answers_unlock.ensures.leads c.in-Unlocking.is s registers body records step leads says))

pub returns-in-Unlocking-clause-fell : goal.returns-in-Unlocking-clause-fell
returns-in-Unlocking-clause-fell c = λ s registers body records step leads says later.
    let all = leads.mine ++ made s.text.task step c.args.answer ∷ later in
    subst (λ (o : Option Outcome). FallsInPart s leads.part (leads.now all) all later o) (sym c.tell-in-Unlocking.ensures.fell)
    (subst (λ (p : Part). FallsInPart s p (leads.now all) all later None)
    (sym (in_unlocking s (leads.now all) leads.mine c.args.self.now.machine c.args.self.now.stage leads.part (leads.agrees all).is_in _ c.in-Unlocking.is)) refl)

pub returns-in-Making-clause-points : goal.returns-in-Making-clause-points
returns-in-Making-clause-points c = λ s registers body records leads begins steps next so_far.
    c.answers_access.ensures.latest ∙ c.latest-latest.ensures s registers body records leads begins steps next so_far

pub returns-in-Opening-clause-points : goal.returns-in-Opening-clause-points
returns-in-Opening-clause-points c = λ s registers body records leads begins steps next so_far.
    c.tell.ensures.latest ∙ c.latest-latest.ensures s registers body records leads begins steps next so_far

pub returns-in-Locking-clause-points : goal.returns-in-Locking-clause-points
returns-in-Locking-clause-points c = λ s registers body records leads begins steps next so_far.
    c.tell-in-Locking.ensures.latest ∙ c.latest-latest.ensures s registers body records leads begins steps next so_far

pub returns-in-Unlocking-clause-points : goal.returns-in-Unlocking-clause-points
returns-in-Unlocking-clause-points c = λ s registers body records leads begins steps next so_far.
    c.tell-in-Unlocking.ensures.latest ∙ c.latest-latest.ensures s registers body records leads begins steps next so_far
