-- The first name stands among those after it.
use Rattle.std.proofs.Common.{refl}
use Rattle.worked_examples.proofs.example_grammar.RefusedOutside.{x_is_named_once}
use Rattle.worked_examples.proofs.example_grammar.laws.law_no_parameter_is_named_twice.Goals as goal

pub returns : goal.returns
returns c before parameters rest after are = x_is_named_once are refl
