-- The access is the one that is planned for the assignment.
use Rattle.std.proofs.Common.{◌∙◌, ℕ, List, ap, length, subst, sym}
use Rattle.std.proofs.lemmas.Result.{IfOk-weaker}
use Rattle.std.specs.Option.{option_map}
use Rattle.litmus_syntax.specs.Views.{assignment_of}
use Rattle.prepared_program.specs.program_layout.Lays.{Lays}
use Rattle.task_plan.specs.Plans.{assignment_plan}
use Rattle.task_plan.specs.Views.{plan_of}
use Rattle.task_run.proofs.PlanLemmas.{begins_assignment}
use Rattle.std.proofs.lemmas.Result.{IfErr-weaker}
use Rattle.task_run.proofs.StopLemmas.{stops_assignment}
use Rattle.task_run.proofs.machine.Machine.assigns.Goals as goal

pub returns-in-Some-clause-begins : goal.returns-in-Some-clause-begins
returns-in-Some-clause-begins c = IfOk-weaker c.makes.result _ _
    (λ stage begins s. begins_assignment s c.args.self.now.walk c.args.site (plan_of c.in-Some.plan) c.args.self.now _ stage (assignment_of c.args.assignment.now) c.args.data_race
    (λ before stands. sym (ap (λ (r : List ℕ). assignment_plan s.text r (assignment_of c.args.assignment.now) c.args.data_race)
    (c.planner.ensures.registers (length s.text.variables) before stands.counts.keeps))
    ∙ (sym (c.assignment.ensures s.text (subst (λ l. Lays s.text.places s.text.variables l) (sym c.planner.ensures.layout) stands.of.layout))
    ∙ ap (option_map plan_of) c.in-Some.is))
    (begins s))
    c.makes.ensures.begins

pub returns-in-Register-clause-begins : goal.returns-in-Register-clause-begins
returns-in-Register-clause-begins c = rw c.in-Register.is c.assigns_register.ensures.begins

pub returns-in-Some-clause-stops : goal.returns-in-Some-clause-stops
returns-in-Some-clause-stops c = IfErr-weaker c.makes.result _ _
    (λ error stops s. stops_assignment s c.args.site (plan_of c.in-Some.plan) c.args.self.now (assignment_of c.args.assignment.now) c.args.data_race
    (λ before stands. sym (ap (λ (r : List ℕ). assignment_plan s.text r (assignment_of c.args.assignment.now) c.args.data_race)
    (c.planner.ensures.registers (length s.text.variables) before stands.counts.keeps))
    ∙ (sym (c.assignment.ensures s.text (subst (λ l. Lays s.text.places s.text.variables l) (sym c.planner.ensures.layout) stands.of.layout))
    ∙ ap (option_map plan_of) c.in-Some.is))
    (stops s))
    c.makes.ensures.stops

pub returns-in-Register-clause-stops : goal.returns-in-Register-clause-stops
returns-in-Register-clause-stops c = rw c.in-Register.is c.assigns_register.ensures.stops
