-- The access is the one that is planned for the call.
use Rattle.std.proofs.Common.{◌∙◌, ℕ, [], None, ap, refl, subst, sym}
use Rattle.std.proofs.lemmas.Result.{IfOk-weaker}
use Rattle.std.specs.Option.{option_map}
use Rattle.prepared_program.specs.program_layout.Lays.{Lays}
use Rattle.task_plan.specs.Views.{plan_of}
use Rattle.litmus_syntax.specs.Tree as tree
use Rattle.litmus_syntax.specs.declared.statement.Call.{Call}
use Rattle.task_run.proofs.PlanLemmas.{begins_call, ends_empty_check}
use Rattle.std.proofs.lemmas.Result.{IfErr-weaker}
use Rattle.task_run.proofs.StopLemmas.{stops_call}
use Rattle.task_run.proofs.machine.Machine.plans.Goals as goal
use Rattle.task_run.specs.Due.{PartBegins, StatementDue}
use Rattle.task_run.specs.Plans.{ChecksNoByte}
use Rattle.task_run.specs.declared.machine.Machine.{Machine}
use Rattle.program_order.specs.Standing.{Setting}

-- a check of no byte is over at once
checks_nothing : (s : Setting) (call : Call) (site : ℕ) (machine : Machine) → ChecksNoByte call
    → PartBegins s (StatementDue s (tree.call call) site machine.walk) machine machine None
checks_nothing s call site machine empty =
    subst (λ (one : Call). PartBegins s (StatementDue s (tree.call one) site machine.walk) machine machine None) (sym empty.2)
    (ends_empty_check s empty.0 empty.1 0 site machine refl)

pub returns-in-Some-clause-begins : goal.returns-in-Some-clause-begins
returns-in-Some-clause-begins c = IfOk-weaker c.makes.result _ _
    (λ stage begins s. begins_call s c.args.self.now.walk c.args.site (plan_of c.in-Some.plan) c.args.self.now _ stage c.args.call
    (λ before stands. sym (c.call.ensures s.text (subst (λ l. Lays s.text.places s.text.variables l) (sym c.planner.ensures.layout) stands.of.layout))
    ∙ ap (option_map plan_of) c.in-Some.is)
    (begins s))
    c.makes.ensures.begins

pub returns-in-Some-clause-stops : goal.returns-in-Some-clause-stops
returns-in-Some-clause-stops c = IfErr-weaker c.makes.result _ _
    (λ error stops s. stops_call s c.args.site (plan_of c.in-Some.plan) c.args.self.now c.args.call
    (λ before stands. sym (c.call.ensures s.text (subst (λ l. Lays s.text.places s.text.variables l) (sym c.planner.ensures.layout) stands.of.layout))
    ∙ ap (option_map plan_of) c.in-Some.is)
    (stops s))
    c.makes.ensures.stops

pub returns-in-None-clause-begins : goal.returns-in-None-clause-begins
returns-in-None-clause-begins c = λ s before stands.
    let empty = c.requires.planned s.text
    (sym (c.call.ensures s.text (subst (λ l. Lays s.text.places s.text.variables l) (sym c.planner.ensures.layout) (stands []).of.layout))
    ∙ ap (option_map plan_of) c.in-None.is) in
    checks_nothing s c.args.call c.args.site c.args.self.now empty before stands
