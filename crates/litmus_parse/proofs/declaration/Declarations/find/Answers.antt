-- The place that is found is that of the name.
use Rattle.std.proofs.Common.{List, ℕ, ap, ◌∙◌}
use Rattle.std.specs.Prelude.{position}
use Rattle.litmus_lex.specs.Words.{is_same}
use Rattle.litmus_expression.specs.NameReader.{index_of}
use Rattle.litmus_expression.proofs.Found.{position_map}
use Rattle.litmus_parse.specs.declared.declaration.Declared.{Declared}
use Rattle.litmus_parse.specs.VariableReader.{name_of}
use Rattle.litmus_parse.proofs.declaration.Declarations.find.Goals as goal

pub returns : goal.returns
unfolding index_of
returns c =
    c.find_declared.ensures ∙ ap (λ (ds : List Declared). position
    (λ (d : Declared). is_same d.name.now c.args.name.now) ds) c.deref.ensures.value
    ∙ position_map name_of (λ (other : List ℕ). is_same other c.args.name.now) c.args.self.now.variables.items
