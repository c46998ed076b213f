-- By what each statement counts.
use Rattle.program_order.proofs.text_bounds.Rises.{disables_grow, nest_opens_grow}
use Rattle.program_order.proofs.text_bounds.laws.law_counts_rise_within_the_text.Goals as goal

pub returns-clause-disables : goal.returns-clause-disables
returns-clause-disables c = disables_grow

pub returns-clause-nest_opens : goal.returns-clause-nest_opens
returns-clause-nest_opens c = nest_opens_grow
