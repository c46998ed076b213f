-- No level begins with `+`.
use Rattle.std.proofs.Common.{refl}
use Rattle.worked_examples.proofs.example_grammar.Spelled.{no_level}
use Rattle.worked_examples.proofs.example_grammar.laws.law_no_expression_begins_with_plus.Goals as goal

pub returns : goal.returns
returns c parameters depth before symbols e rest after spelled = no_level spelled.level refl
