-- The type is char by one item, and int by the other.
use Rattle.worked_examples.proofs.example_grammar.RefusedOutside.{x_has_two_types}
use Rattle.worked_examples.proofs.example_grammar.laws.law_an_item_without_a_type_is_an_int.Goals as goal

pub returns : goal.returns
returns c mentions rest type are has = x_has_two_types are has
