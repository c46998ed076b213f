-- one asking after the other
use Rattle.skip_sampler.proofs.Positions.{some_sampler}
use Rattle.skip_sampler.proofs.laws.law_askings_lead_to_samplers.Goals as goal

pub returns : goal.returns
returns c = some_sampler
