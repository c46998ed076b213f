-- By what each record of the text tells.
use Rattle.soundness.proofs.Bounds.{bounds_by, bounds_of_whole}
use Rattle.soundness.proofs.in_progress.law_steps_of_the_clock_are_begins_and_ends.Goals as goal

pub returns-clause-whole : goal.returns-clause-whole
returns-clause-whole c = bounds_of_whole

pub returns-clause-by_then : goal.returns-clause-by_then
returns-clause-by_then c = bounds_by
