-- The check goes on, or is over, and what is left of the text follows.
use Rattle.std.proofs.Common.{◌≡◌, ◌∙◌, ◌⊎◌, ◌++◌, ◌∷◌, [], List, ap, false, inl, inr, subst, sym, true}
use Rattle.setup_access.specs.Parts.{made}
use Rattle.slot_table.specs.declared.records.Record.{Record}
use Rattle.task_run.proofs.NewsLemmas.{closing_fell, opening_fell}
use Rattle.task_run.proofs.RunLemmas.{closing_ended, closing_inside, opening_ended, opening_inside}
use Rattle.task_run.proofs.SaysLemmas.{says_as_check}
use Rattle.task_run.proofs.WaitLemmas.{check_says, no_try_no_wait, of_check_tries_none}
use Rattle.task_run.proofs.run.TaskRun.answers_check.Goals as goal
use Rattle.task_run.proofs.run.TaskRun.answers_check.Goals.{in-Opening, in_default}
use Rattle.task_run.specs.Agrees.{Begins}
use Rattle.task_run.specs.Leads.{Leads}
use Rattle.task_run.specs.Stands.{StandsBy}
use Rattle.task_run.specs.declared.machine.Machine.{Machine}
use Rattle.task_run.specs.declared.run.TaskRun.{TaskRun}
use Rattle.task_run.specs.declared.stage.TaskStage.{TaskStage}
use Rattle.task_run.specs.declared.stage.TaskStage.TheVariants as stages
use Rattle.task_plan.specs.Left.{WalkLeft}
use Rattle.program_order.specs.Standing.{Setting, Standing, checks_of}

closes_else : (stage : TaskStage) → (stage ≡ stages.Opening) ⊎ (stage ≡ stages.Closing) → ¬ (stage ≡ stages.Opening) → stage ≡ stages.Closing
closes_else stage (inl is) not = absurd (not is)
closes_else stage (inr is) not = is

goes_from : (s : Setting) (one other new : Machine) (stage : TaskStage) → one ≡ other
    → ((before : List Record → Standing) → StandsBy s before one → Begins s (WalkLeft s one.walk) before new stage)
    → (before : List Record → Standing) → StandsBy s before other → Begins s (WalkLeft s other.walk) before new stage
goes_from s one other new stage is goes =
    subst (λ (m : Machine). (before : List Record → Standing) → StandsBy s before m → Begins s (WalkLeft s m.walk) before new stage) is goes

pub answers_check-came-requires : goal.answers_check-came-requires
answers_check-came-requires c = (c.requires.says.0, says_as_check c.args.self.now c.requires.says.0 c.requires.checking c.requires.says.1, c.requires.says.2)

pub returns-after-self-clause-leads : goal.returns-after-self-clause-leads
returns-after-self-clause-leads c = λ s registers body records step leads says.
    elim c.match-self.branch [
      | in-Opening w ↦ opening_ended s registers body records c.args.self.now leads (made s.text.task step c.args.answer)
          c.answers_check-came.new.self w.in-Opening.is
          c.answers_check-came.ensures.kept c.answers_check-came.ensures.context
          (λ scopes what asked so_far sites l. c.answers_check-came.ensures.leads (checks_of s) scopes what asked so_far step sites l
          (says_as_check c.args.self.now step c.requires.checking says))
          (no_try_no_wait step c.args.answer (of_check_tries_none step (check_says c.args.self.now.machine.checker step
          (says_as_check c.args.self.now step c.requires.checking says))))
          (λ scopes what asked so_far l. c.answers_check-came.ensures.complete (checks_of s) scopes what asked so_far l
          ((c.answers_check-came.ensures.over (checks_of s) scopes what asked so_far l).0 c.if-came.true))
          w.opened.new.self.checker (w.opened.ensures.opens (checks_of s)) w.opened.ensures.context w.opened.new.self.in_force w.opened.ensures.in_force _
          (goes_from s _ _ _ _ (ap (λ (run : TaskRun). run.machine) w.self-is ∙ w.opened.ensures.kept) (c.advance.ensures.begins s))
      | in_default w ↦ closing_ended s registers body records c.args.self.now leads (made s.text.task step c.args.answer)
          c.answers_check-came.new.self
          (closes_else c.args.self.now.stage c.requires.checking w.in_default.not-Opening)
          c.answers_check-came.ensures.kept c.answers_check-came.ensures.context
          (λ scopes what asked so_far sites l. c.answers_check-came.ensures.leads (checks_of s) scopes what asked so_far step sites l
          (says_as_check c.args.self.now step c.requires.checking says))
          (no_try_no_wait step c.args.answer (of_check_tries_none step (check_says c.args.self.now.machine.checker step
          (says_as_check c.args.self.now step c.requires.checking says))))
          (λ scopes what asked so_far l. c.answers_check-came.ensures.complete (checks_of s) scopes what asked so_far l
          ((c.answers_check-came.ensures.over (checks_of s) scopes what asked so_far l).0 c.if-came.true))
          _ (goes_from s _ _ _ _ (ap (λ (run : TaskRun). run.machine) w.self-is ∙ w.closed.ensures) (c.advance.ensures.begins s))
    ]

pub returns-else-came-clause-leads : goal.returns-else-came-clause-leads
returns-else-came-clause-leads c = λ s registers body records step leads says.
    elim c.requires.checking [
      | inl is ↦ subst (λ stage. Leads s registers body (records ++ made s.text.task step c.args.answer ∷ [])
          (record c.args.self.now { machine = c.answers_check-came.new.self; stage = stage })) (sym is)
          (opening_inside s registers body records c.args.self.now leads (made s.text.task step c.args.answer) c.answers_check-came.new.self is
          c.answers_check-came.ensures.kept c.answers_check-came.ensures.context
          (λ scopes what asked so_far sites l. c.answers_check-came.ensures.leads (checks_of s) scopes what asked so_far step sites l
          (says_as_check c.args.self.now step c.requires.checking says))
          (λ scopes what asked so_far l done.
          absurd (let no : false ≡ true = sym c.if-came.false ∙ (c.answers_check-came.ensures.over (checks_of s) scopes what asked so_far l).1 done in cc))
          c.answers_check-came.ensures.begun)
      | inr is ↦ subst (λ stage. Leads s registers body (records ++ made s.text.task step c.args.answer ∷ [])
          (record c.args.self.now { machine = c.answers_check-came.new.self; stage = stage })) (sym is)
          (closing_inside s registers body records c.args.self.now leads (made s.text.task step c.args.answer) c.answers_check-came.new.self is
          c.answers_check-came.ensures.kept c.answers_check-came.ensures.context
          (λ scopes what asked so_far sites l. c.answers_check-came.ensures.leads (checks_of s) scopes what asked so_far step sites l
          (says_as_check c.args.self.now step c.requires.checking says))
          (λ scopes what asked so_far l done.
          absurd (let no : false ≡ true = sym c.if-came.false ∙ (c.answers_check-came.ensures.over (checks_of s) scopes what asked so_far l).1 done in cc)))
    ]

pub returns-after-self-clause-fell : goal.returns-after-self-clause-fell
returns-after-self-clause-fell c = λ s registers body records step leads says later.
    elim c.requires.checking [
      | inl is ↦ opening_fell s registers body records c.args.self.now leads (made s.text.task step c.args.answer) c.answers_check-came.new.self
          c.answers_check-came.result.fell c.answers_check-came.ensures.fell later is
          (λ scopes what asked so_far sites l. c.answers_check-came.ensures.leads (checks_of s) scopes what asked so_far step sites l
          (says_as_check c.args.self.now step c.requires.checking says))
      | inr is ↦ closing_fell s registers body records c.args.self.now leads (made s.text.task step c.args.answer) c.answers_check-came.new.self
          c.answers_check-came.result.fell c.answers_check-came.ensures.fell later is
          (λ scopes what asked so_far sites l. c.answers_check-came.ensures.leads (checks_of s) scopes what asked so_far step sites l
          (says_as_check c.args.self.now step c.requires.checking says))
    ]

pub returns-else-came-clause-fell : goal.returns-else-came-clause-fell
returns-else-came-clause-fell c = λ s registers body records step leads says later.
    elim c.requires.checking [
      | inl is ↦ opening_fell s registers body records c.args.self.now leads (made s.text.task step c.args.answer) c.answers_check-came.new.self
          c.answers_check-came.result.fell c.answers_check-came.ensures.fell later is
          (λ scopes what asked so_far sites l. c.answers_check-came.ensures.leads (checks_of s) scopes what asked so_far step sites l
          (says_as_check c.args.self.now step c.requires.checking says))
      | inr is ↦ closing_fell s registers body records c.args.self.now leads (made s.text.task step c.args.answer) c.answers_check-came.new.self
          c.answers_check-came.result.fell c.answers_check-came.ensures.fell later is
          (λ scopes what asked so_far sites l. c.answers_check-came.ensures.leads (checks_of s) scopes what asked so_far step sites l
          (says_as_check c.args.self.now step c.requires.checking says))
    ]
