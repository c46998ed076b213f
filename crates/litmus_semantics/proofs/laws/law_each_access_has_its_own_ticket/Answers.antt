-- Two accesses of one site have different repetitions.
use Rattle.litmus_semantics.proofs.TicketLemmas.{own_tickets}
use Rattle.litmus_semantics.proofs.laws.law_each_access_has_its_own_ticket.Goals as goal

pub returns : goal.returns
returns c = λ s body registers end means. own_tickets s body registers end means
