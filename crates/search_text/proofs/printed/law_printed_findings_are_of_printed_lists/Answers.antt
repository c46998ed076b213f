-- texts that are hidden count for no other
use Rattle.search_text.proofs.PrintedLemmas.{printed_found}
use Rattle.search_text.proofs.printed.law_printed_findings_are_of_printed_lists.Goals as goal

pub returns : goal.returns
returns c = printed_found
