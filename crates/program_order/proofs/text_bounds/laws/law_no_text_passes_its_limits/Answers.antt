-- Neither count rises above what the text says, and few scoped assertions are in force.
use Rattle.program_order.proofs.text_bounds.Passes.{passes_none}
use Rattle.program_order.proofs.text_bounds.laws.law_no_text_passes_its_limits.Goals as goal

pub returns : goal.returns
returns c = passes_none
