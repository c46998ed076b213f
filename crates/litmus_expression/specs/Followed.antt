-- What is asked of names, and of what follows an expression, where what is spelled is read.
use Rattle.std.specs.Prelude.{◌≡◌, ◌<◌, ℕ, List, [], ◌∷◌, Some, Contains, false}
use Rattle.litmus_lex.specs.declared.sign.Sign.TheVariants.{OpenParen}
use Rattle.litmus_syntax.specs.declared.expression.BinaryOperator.{BinaryOperator}
use Rattle.litmus_syntax.specs.Tree as tree
use Rattle.litmus_lex.specs.Front.{first, is_sign}
use Rattle.litmus_lex.specs.Words.{Symbol}
use Rattle.litmus_expression.specs.ExpressionReader.{binary_at, is_foreign}
use Rattle.litmus_expression.specs.Expressions.{level_of}
use Rattle.litmus_expression.specs.Names.{Names, Parameter}

-- no name stands twice
abbrev pub Differ : Names → Type 0
Differ [] = Unit {0}
Differ (name ∷ names) = ¬ Contains names name × Differ names

-- the name of a parameter
abbrev pub name_of : Parameter → List ℕ
name_of p = p.name

-- how often an expression's access is made, in loops that repeat it so often
abbrev pub accesses : ℕ → tree.Expression → ℕ
accesses turns (tree.pure a) = 0
accesses turns (tree.loading a) = turns

-- what follows an expression of a level can't continue it: no operator of the level or stronger, none that no
-- expression takes, and no `(`
pub record Follows (k : ℕ) (rest : List Symbol) : Type 0 where
  pub no_foreign : is_foreign (first rest) ≡ false
  pub no_call : is_sign OpenParen (first rest) ≡ false
  pub weaker : (op : BinaryOperator) → binary_at (first rest) ≡ Some op → k < level_of op
