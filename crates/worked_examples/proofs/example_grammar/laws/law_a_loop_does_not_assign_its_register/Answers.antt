-- The first name has the number 0, and so has the name that is assigned.
use Rattle.std.proofs.Common.{refl}
use Rattle.worked_examples.proofs.example_grammar.Refused.{own_in_loop}
use Rattle.worked_examples.proofs.example_grammar.laws.law_a_loop_does_not_assign_its_register.Goals as goal

pub returns : goal.returns
returns c depth counters s rest after is = own_in_loop is refl refl
