-- nothing is kept of no run
use Rattle.std.proofs.Common.{refl}
use Rattle.run_stats.proofs.made.Made.new.Goals as goal

pub returns : goal.returns
returns c = λ unknown program settings sites. record {
  ended = refl;
  stuck_are = refl;
  tallies = c.new.ensures unknown program settings sites;
  last_is = refl;
}
