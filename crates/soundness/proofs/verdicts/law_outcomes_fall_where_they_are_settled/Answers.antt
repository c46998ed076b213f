-- Each outcome of a text falls at one of its records, which settles it.
use Rattle.soundness.proofs.Lists.{each_settles}
use Rattle.soundness.proofs.verdicts.law_outcomes_fall_where_they_are_settled.Goals as goal

pub returns : goal.returns
returns c = each_settles
