-- The checker says where the value of an access lies.
use Rattle.std.proofs.Common.{◌∙◌, IsSome, refl, subst, sym}
use Rattle.task_run.proofs.machine.Machine.has_cell.Goals as goal
use Rattle.program_order.specs.Standing.{checks_of}

pub returns-in-Some : goal.returns-in-Some
returns-in-Some c = λ s before stands. rw c.in-Some.is (
  λ has. subst (λ o. IsSome o) (c.source.ensures.value (checks_of s) before.scopes before.asked stands.rests.0 stands.rests.1) (sym c.is_some.ensures ∙ has),
  λ some. c.is_some.ensures ∙ subst (λ o. IsSome o) (sym (c.source.ensures.value (checks_of s) before.scopes before.asked stands.rests.0 stands.rests.1)) some,
)

pub returns-in-None : goal.returns-in-None
returns-in-None c = λ s before stands. rw c.in-None.is (λ has. tt, λ some. refl)
