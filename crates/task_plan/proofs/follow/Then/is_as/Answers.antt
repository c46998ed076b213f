-- What else follows is not the next statement.
use Rattle.std.proofs.Common.{◌≡◌, ◌∙◌, ap, refl, sym}
use Rattle.task_plan.specs.Follow as spec
use Rattle.task_plan.specs.Views.{follow_of}
use Rattle.task_plan.specs.declared.follow.Then.{Then}
use Rattle.task_plan.specs.declared.follow.Then.TheVariants as thens
use Rattle.task_plan.proofs.follow.Then.is_as.Goals as goal

is_else : (one : Then) → (one ≡ thens.GoesOn → ⊥) → follow_of one ≡ spec.goes_on → ⊥
is_else thens.GoesOn other e = other refl
is_else thens.MarksNext other e = cc
is_else (thens.Assigned data_race) other e = cc
is_else (thens.Loaded size data_races taker) other e = cc

pub returns-in_default : goal.returns-in_default
returns-in_default c = (
  λ yes. search,
  λ same. absurd (is_else c.args.other.now c.in_default.not-GoesOn (sym same ∙ ap follow_of c.in-GoesOn.is)),
)
