-- The access is the one that is planned for the load.
use Rattle.std.proofs.Common.{◌∙◌, ℕ, List, ap, length, subst, sym}
use Rattle.std.proofs.lemmas.Result.{IfOk-weaker}
use Rattle.litmus_syntax.specs.Views.{load_of}
use Rattle.prepared_program.specs.program_layout.Lays.{Lays}
use Rattle.task_plan.specs.Plans.{load_plan}
use Rattle.task_plan.specs.Views.{plan_of, taker_of}
use Rattle.task_run.proofs.PlanLemmas.{begins_load}
use Rattle.std.proofs.lemmas.Result.{IfErr-weaker}
use Rattle.task_run.proofs.StopLemmas.{stops_load}
use Rattle.task_run.proofs.machine.Machine.loads.Goals as goal

pub returns-clause-begins : goal.returns-clause-begins
returns-clause-begins c = IfOk-weaker c.makes.result _ _
    (λ stage begins s. begins_load s c.args.self.now.walk c.args.site (plan_of c.load-plan.result) c.args.self.now _ stage (load_of c.args.load.now) (taker_of c.args.taker)
    (λ before stands. c.load-plan.ensures s.text (subst (λ l. Lays s.text.places s.text.variables l) (sym c.planner.ensures.layout) stands.of.layout)
    ∙ ap (λ (r : List ℕ). load_plan s.text r (load_of c.args.load.now) (taker_of c.args.taker))
    (c.planner.ensures.registers (length s.text.variables) before stands.counts.keeps))
    (begins s))
    c.makes.ensures.begins

pub returns-clause-stops : goal.returns-clause-stops
returns-clause-stops c = IfErr-weaker c.makes.result _ _
    (λ error stops s. stops_load s c.args.site (plan_of c.load-plan.result) c.args.self.now (load_of c.args.load.now) (taker_of c.args.taker)
    (λ before stands. c.load-plan.ensures s.text (subst (λ l. Lays s.text.places s.text.variables l) (sym c.planner.ensures.layout) stands.of.layout)
    ∙ ap (λ (r : List ℕ). load_plan s.text r (load_of c.args.load.now) (taker_of c.args.taker))
    (c.planner.ensures.registers (length s.text.variables) before stands.counts.keeps))
    (stops s))
    c.makes.ensures.stops
