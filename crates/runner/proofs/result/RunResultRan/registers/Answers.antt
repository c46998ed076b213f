-- Those of the task, of the list.
use Rattle.std.proofs.Common.{◌∙◌, ap, arith, inl, inr}
use Rattle.std.proofs.lemmas.Option.{get_or_from_slice_get, slice_get_cases}
use Rattle.runner.proofs.result.RunResultRan.registers.Goals as goal

pub returns : goal.returns
returns c = λ run records is.
    let all = c.args.self.now.registers.items in
    elim (slice_get_cases all c.args.task).1 [
      | inl there ↦ c.registers.ensures there.0 ∙ (ap (λ values. values.items)
          (get_or_from_slice_get all c.args.task there.0 there.0 there.2) ∙ is.1.registers c.args.task there.0 there.2)
      | inr beyond ↦ absurd (let over = beyond.0 in omega (arith, over, c.requires))
    ]
