-- a remainder by skip is below skip
use Rattle.skip_sampler.proofs.Positions.{gap_least, gap_most}
use Rattle.skip_sampler.proofs.laws.law_gaps_are_within_skip.Goals as goal

pub returns-clause-most : goal.returns-clause-most
returns-clause-most c = gap_most

pub returns-clause-least : goal.returns-clause-least
returns-clause-least c = gap_least
