-- The walk goes on where the condition says.
use Rattle.std.proofs.Common.{◌∙◌, ℕ, List, [], ap, length, refl, sym}
use Rattle.litmus_semantics.specs.Expressions.{pure_value}
use Rattle.litmus_syntax.specs.Views.{pure_of}
use Rattle.task_run.proofs.BeginsLemmas.{walked}
use Rattle.task_run.proofs.FollowLemmas.{chosen_fails, chosen_holds}
use Rattle.task_run.proofs.PlanLemmas.{decides_left}
use Rattle.task_run.specs.Position.{nothing}
use Rattle.task_run.proofs.machine.Machine.decides.Goals as goal
use Rattle.task_plan.proofs.StepsLemmas.{through}

pub returns-then-pure_value-ne0-clause-begins : goal.returns-then-pure_value-ne0-clause-begins
returns-then-pure_value-ne0-clause-begins c = λ s site before stands. (
  before,
  λ later. walked s (before later) c.args.self.now _ refl (stands later),
  λ later end. through (decides_left s c.args.self.now.walk site (pure_of c.args.value.now) (before later) later end [])
      (through (chosen_holds (pure_value (before later).progress.registers (pure_of c.args.value.now)) _ _
      (λ none. c.if-pure_value-ne0.true (c.pure_value.ensures
      ∙ (ap (λ (r : List ℕ). pure_value r (pure_of c.args.value.now)) (c.registers.ensures (length s.text.variables) (before later) (stands later).counts.keeps) ∙ none))))
      (c.holds.ensures.left s (before later) later end [])),
  λ later. nothing,
)

pub returns-else-pure_value-ne0-clause-begins : goal.returns-else-pure_value-ne0-clause-begins
returns-else-pure_value-ne0-clause-begins c = λ s site before stands. (
  before,
  stands,
  λ later end. through (decides_left s c.args.self.now.walk site (pure_of c.args.value.now) (before later) later end [])
      (chosen_fails (pure_value (before later).progress.registers (pure_of c.args.value.now)) _ _
      (sym (c.pure_value.ensures
      ∙ ap (λ (r : List ℕ). pure_value r (pure_of c.args.value.now)) (c.registers.ensures (length s.text.variables) (before later) (stands later).counts.keeps))
      ∙ c.if-pure_value-ne0.false)),
  λ later. nothing,
)
