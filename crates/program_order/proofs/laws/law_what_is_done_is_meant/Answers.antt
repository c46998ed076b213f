-- By inductions on the text.
use Rattle.program_order.proofs.MeaningLemmas.{whole_means}
use Rattle.program_order.proofs.WayLemmas.{did_by_then}
use Rattle.program_order.proofs.laws.law_what_is_done_is_meant.Goals as goal

pub returns-clause-whole : goal.returns-clause-whole
returns-clause-whole c = whole_means

pub returns-clause-by_then : goal.returns-clause-by_then
returns-clause-by_then c = did_by_then
