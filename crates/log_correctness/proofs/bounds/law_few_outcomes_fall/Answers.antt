-- By what each part of a text adds.
use Rattle.std.proofs.Common.{arith}
use Rattle.log_correctness.proofs.Outcomes.{few_outcomes}
use Rattle.log_correctness.proofs.bounds.law_few_outcomes_fall.Goals as goal

pub returns-clause-text : goal.returns-clause-text
returns-clause-text c = λ s registers body records fits whole. few_outcomes s registers body records fits.scopes whole

pub returns-clause-limits : goal.returns-clause-limits
returns-clause-limits c = λ s registers body records fits whole.
    let few = few_outcomes s registers body records fits.scopes whole in let repeats = fits.repeats in omega (arith, few, repeats)
