-- By what begins at each site.
use Rattle.litmus_semantics.proofs.TicketLemmas.{of_text}
use Rattle.litmus_semantics.proofs.laws.law_each_access_is_one_of_the_text.Goals as goal

pub returns : goal.returns
returns c = λ s body registers end means. of_text s body registers end means
