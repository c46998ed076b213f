-- What a number of a block or a statement is where it is passed, or has blocks of its own.
use Rattle.std.proofs.Common.{◌≡◌, ◌∙◌, ℕ, Global, List, Vec, ap}
use Rattle.litmus_syntax.proofs.TreeLemmas.{statement_of-For, statement_of-If, statement_of-IfElse}
use Rattle.litmus_syntax.specs.Tree.{Block}
use Rattle.litmus_syntax.specs.Tree as tree
use Rattle.litmus_syntax.specs.Views.{block_of, expression_of, statement_of}
use Rattle.litmus_syntax.specs.declared.expression.Expression.{Expression}
use Rattle.litmus_syntax.specs.declared.statement.Statement.{Statement}
use Rattle.litmus_syntax.specs.declared.statement.Statement.TheVariants.{For, If, IfElse}
use Rattle.program_table.specs.Counts.{capped}

-- of a block that is passed as its statements
pub of_passed : (number : Block → ℕ) (items passed : List Statement) → passed ≡ items
    → capped (number (block_of passed)) ≡ capped (number (block_of items))
of_passed number items passed same = ap (λ (xs : List Statement). capped (number (block_of xs))) same

module _ (number : tree.Statement → ℕ) (s : Statement) where
  pub of_if : (condition : Expression) (body : Vec Statement Global) → s ≡ If condition body
      → capped (number (statement_of s)) ≡ capped (number (tree.if_block (expression_of condition) (block_of body.items)))
  of_if condition body is = ap (λ (x : tree.Statement). capped (number x)) (ap statement_of is ∙ statement_of-If condition body)

  pub of_if_else : (condition : Expression) (body otherwise : Vec Statement Global) → s ≡ IfElse condition body otherwise
      → capped (number (statement_of s)) ≡ capped (number (tree.if_else (expression_of condition) (block_of body.items) (block_of otherwise.items)))
  of_if_else condition body otherwise is =
      ap (λ (x : tree.Statement). capped (number x)) (ap statement_of is ∙ statement_of-IfElse condition body otherwise)

  pub of_for : (register turns : ℕ) (body : Vec Statement Global) → s ≡ For register turns body
      → capped (number (statement_of s)) ≡ capped (number (tree.for_turns register turns (block_of body.items)))
  of_for register turns body is = ap (λ (x : tree.Statement). capped (number x)) (ap statement_of is ∙ statement_of-For register turns body)
