-- what stands before the first slash, and behind it, is a number
use Rattle.std.proofs.Common.{◌∙◌, arith, subst, sym}
use Rattle.cli.proofs.ValueLemmas.{never}
use Rattle.cli.proofs.request.part_of.Goals as goal
use Rattle.cli.specs.Words.{SpellsNumber}

pub returns-in_err-number_of-clause-complete : goal.returns-in_err-number_of-clause-complete
returns-in_err-number_of-clause-complete c = λ format keeps names.
    let split = c.in_ok-part.ensures.byte (omega arith) (λ word place finds. finds) in
    let spelled = subst (λ text. SpellsNumber text names.part) (sym split.0) names.number in
    absurd (never names.part (sym c.in_err-number_of.was ∙ c.number_of.ensures.complete names.part spelled))

pub returns-in_err-number_of-2-clause-complete : goal.returns-in_err-number_of-2-clause-complete
returns-in_err-number_of-2-clause-complete c = λ format keeps names.
    let split = c.in_ok-part.ensures.byte (omega arith) (λ word place finds. finds) in
    let spelled = subst (λ text. SpellsNumber text names.parts) (sym split.1) names.count in
    absurd (never names.parts (sym c.in_err-number_of-2.was ∙ c.number_of-2.ensures.complete names.parts spelled))
