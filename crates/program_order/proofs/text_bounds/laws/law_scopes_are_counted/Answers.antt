-- By what each happening does to those in force.
use Rattle.program_order.proofs.text_bounds.Scopes.{as_many, one_less, one_more}
use Rattle.program_order.proofs.text_bounds.laws.law_scopes_are_counted.Goals as goal

pub returns-clause-opens : goal.returns-clause-opens
returns-clause-opens c = one_more

pub returns-clause-closes : goal.returns-clause-closes
returns-clause-closes c = one_less

pub returns-clause-others : goal.returns-clause-others
returns-clause-others c = as_many
