-- The outcomes of a text fall where its points tell, and a verdict with the last record of its watch.
use Rattle.soundness.proofs.Watches.{all_of_watches}
use Rattle.soundness.proofs.verdicts.law_verdicts_are_on_watches.Goals as goal

pub returns : goal.returns
returns c = all_of_watches
