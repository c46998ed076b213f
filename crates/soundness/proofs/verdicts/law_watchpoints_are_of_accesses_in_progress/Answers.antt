-- The points of each task's way tell for which access it inserts and tries a word.
use Rattle.soundness.proofs.MadeFor.{each_is_made_for}
use Rattle.soundness.proofs.verdicts.law_watchpoints_are_of_accesses_in_progress.Goals as goal

pub returns : goal.returns
returns c = each_is_made_for
