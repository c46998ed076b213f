-- a list that is left out adds no text
use Rattle.search_text.proofs.FirstLists.{firsts_enough}
use Rattle.search_text.proofs.laws.law_first_lists_are_enough.Goals as goal

pub returns : goal.returns
returns c = firsts_enough
