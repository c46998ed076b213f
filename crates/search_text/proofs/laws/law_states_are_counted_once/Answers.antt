-- each is counted for one list alone
use Rattle.search_text.proofs.CountedOnce.{counted_once}
use Rattle.search_text.proofs.laws.law_states_are_counted_once.Goals as goal

pub returns : goal.returns
returns c = counted_once
