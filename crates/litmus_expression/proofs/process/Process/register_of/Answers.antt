-- The place that is found is that of the name.
use Rattle.std.proofs.Common.{List, ℕ, ap, ◌∙◌}
use Rattle.std.specs.Prelude.{position}
use Rattle.std.specs.Borrow.{Bor}
use Rattle.litmus_lex.specs.Front.{now}
use Rattle.litmus_lex.specs.Words.{is_same}
use Rattle.litmus_expression.specs.NameReader.{index_of}
use Rattle.litmus_expression.proofs.Found.{position_map}
use Rattle.litmus_expression.proofs.process.Process.register_of.Goals as goal

pub returns-clause-exact : goal.returns-clause-exact
unfolding index_of
returns-clause-exact c =
    c.find_name.ensures ∙ ap (λ (rs : List (Bor (List ℕ))). position (λ (r : Bor (List ℕ)). is_same r.now c.args.name.now) rs) c.deref.ensures.value
    ∙ position_map now (λ (other : List ℕ). is_same other c.args.name.now) c.args.self.now.registers.items
