-- Who else takes a value is not nobody.
use Rattle.std.proofs.Common.{◌≡◌, ◌∙◌, ap, refl, sym}
use Rattle.task_plan.specs.Follow as spec
use Rattle.task_plan.specs.Views.{taker_of}
use Rattle.task_plan.specs.declared.follow.Taker.{Taker}
use Rattle.task_plan.specs.declared.follow.Taker.TheVariants as takers
use Rattle.task_plan.proofs.follow.Taker.is_as.Goals as goal

is_somebody : (one : Taker) → (one ≡ takers.Nobody → ⊥) → taker_of one ≡ spec.nobody → ⊥
is_somebody takers.Nobody other e = other refl
is_somebody (takers.Register register value data_race) other e = cc
is_somebody (takers.Condition value) other e = cc

pub returns-in_default : goal.returns-in_default
returns-in_default c = (
  λ yes. search,
  λ same. absurd (is_somebody c.args.other.now c.in_default.not-Nobody (sym same ∙ ap taker_of c.in-Nobody.is)),
)
