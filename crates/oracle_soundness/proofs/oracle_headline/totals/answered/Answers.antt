-- Each is one of four things.
use Rattle.std.proofs.Common.{◌∙◌}
use Rattle.oracle_soundness.proofs.oracle_headline.Sums.{answered_sum}
use Rattle.oracle_soundness.proofs.oracle_headline.totals.answered.Goals as goal

pub returns : goal.returns
returns c = c.count_answered.ensures ∙ answered_sum c.args.outcomes.now
