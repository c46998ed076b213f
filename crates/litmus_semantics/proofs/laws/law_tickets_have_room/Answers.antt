-- By the sites of each statement.
use Rattle.litmus_semantics.proofs.LimitLemmas.{all_loops_fit, few_sites, tickets_fit}
use Rattle.litmus_semantics.proofs.laws.law_tickets_have_room.Goals as goal

pub returns : goal.returns
returns c = record {
  tickets = λ s body keeps. tickets_fit s body keeps;
  sites = λ body keeps. few_sites body keeps;
  loops = λ body keeps. all_loops_fit 1 body keeps.turns;
}
