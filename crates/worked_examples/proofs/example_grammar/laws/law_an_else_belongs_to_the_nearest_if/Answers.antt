-- The inner `if` would have no `else`, though one follows.
use Rattle.std.proofs.Common.{refl}
use Rattle.worked_examples.proofs.example_grammar.Refused.{else_is_inner}
use Rattle.worked_examples.proofs.example_grammar.laws.law_an_else_belongs_to_the_nearest_if.Goals as goal

pub returns : goal.returns
returns c depth counters before rest after is = else_is_inner is refl refl
