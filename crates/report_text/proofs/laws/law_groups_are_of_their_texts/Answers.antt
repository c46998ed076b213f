use Rattle.report_text.proofs.Counts.{groups_are_counts}
use Rattle.report_text.proofs.laws.law_groups_are_of_their_texts.Goals as goal

pub returns : goal.returns
returns c = groups_are_counts
