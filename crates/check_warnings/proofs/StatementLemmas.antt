-- What is asked of a statement with blocks, and of a block that is passed.
use Rattle.std.proofs.Common.{◌≡◌, ◌∙◌, Bool, ℕ, Global, List, Vec, ap, false, sym, true}
use Rattle.std.specs.Prelude.{◌||◌}
use Rattle.litmus_syntax.proofs.TreeLemmas.{statement_of-For, statement_of-If, statement_of-IfElse}
use Rattle.litmus_syntax.specs.Tree as tree
use Rattle.litmus_syntax.specs.Views.{block_of, expression_of, statement_of}
use Rattle.litmus_syntax.specs.declared.expression.Expression.{Expression}
use Rattle.litmus_syntax.specs.declared.statement.Statement.{Statement}
use Rattle.litmus_syntax.specs.declared.statement.Statement.TheVariants.{For, If, IfElse}

-- one of two: the first is so, or else the second is asked for
pub or_then : (answer x y : Bool) → answer ≡ x → answer ≡ true → answer ≡ (x || y)
or_then answer x y is holds = holds ∙ ap (λ (b : Bool). b || y) (sym holds ∙ is)

pub or_else : (first answer x y : Bool) → first ≡ x → first ≡ false → answer ≡ y → answer ≡ (x || y)
or_else first answer x y first_is fails is = is ∙ ap (λ (b : Bool). b || y) (sym fails ∙ first_is)

-- of a block that is passed as its statements
pub of_passed : (asked : tree.Block → Bool) (items passed : List Statement) → passed ≡ items
    → asked (block_of passed) ≡ asked (block_of items)
of_passed asked items passed same = ap (λ (xs : List Statement). asked (block_of xs)) same

module _ (asked : tree.Statement → Bool) (s : Statement) where
  pub of_if : (condition : Expression) (body : Vec Statement Global) → s ≡ If condition body
      → asked (statement_of s) ≡ asked (tree.if_block (expression_of condition) (block_of body.items))
  of_if condition body is = ap asked (ap statement_of is ∙ statement_of-If condition body)

  pub of_if_else : (condition : Expression) (body otherwise : Vec Statement Global) → s ≡ IfElse condition body otherwise
      → asked (statement_of s) ≡ asked (tree.if_else (expression_of condition) (block_of body.items) (block_of otherwise.items))
  of_if_else condition body otherwise is = ap asked (ap statement_of is ∙ statement_of-IfElse condition body otherwise)

  pub of_for : (register turns : ℕ) (body : Vec Statement Global) → s ≡ For register turns body
      → asked (statement_of s) ≡ asked (tree.for_turns register turns (block_of body.items))
  of_for register turns body is = ap asked (ap statement_of is ∙ statement_of-For register turns body)
