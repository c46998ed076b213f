-- By induction on the text.
use Rattle.program_order.proofs.ScopesLemmas.{block_leaves_scopes}
use Rattle.program_order.proofs.laws.law_parts_of_a_text_leave_the_scopes.Goals as goal

pub returns : goal.returns
returns c = block_leaves_scopes
