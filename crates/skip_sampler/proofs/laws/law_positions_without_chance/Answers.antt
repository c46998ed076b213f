-- each gap is then skip itself
use Rattle.skip_sampler.proofs.Positions.{position-fixed}
use Rattle.skip_sampler.proofs.laws.law_positions_without_chance.Goals as goal

pub returns : goal.returns
returns c = position-fixed
