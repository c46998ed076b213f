-- no asking leads to a full counter and a fresh generator
use Rattle.std.proofs.Common.{ap}
use Rattle.skip_sampler.specs.Sampler.{stream_from}
use Rattle.skip_sampler.proofs.Positions.{leads-new}
use Rattle.skip_sampler.proofs.Sampler.new.Goals as goal

pub returns : goal.returns
returns c =
    leads-new c.args.skip c.args.randomize c.args.seed c.seed_from_u64.result
    (ap stream_from c.seed_from_u64.ensures)
