-- How many operators one expression of a task has, at most. Each expression in a load counts by itself.
use Rattle.std.specs.Prelude.{ℕ, max}
use Rattle.litmus_syntax.specs.Limits.{loading_operators, pure_operators}
use Rattle.litmus_syntax.specs.Tree.{Assignment, Block, Expression, Fetch, Loading, Statement}
use Rattle.litmus_syntax.specs.Tree as tree

-- the most of one expression in a load
abbrev pub most_in_fetch : Fetch → ℕ
most_in_fetch (tree.read form variable) = 0
most_in_fetch (tree.exchange variable value) = pure_operators value
most_in_fetch (tree.compare_exchange variable expected replacement) = max (pure_operators expected) (pure_operators replacement)

-- the most of one expression in the load of an expression
abbrev pub most_in_load : Loading → ℕ
most_in_load (tree.load l) = most_in_fetch l.fetch
most_in_load (tree.unary_of op a) = most_in_load a
most_in_load (tree.left op a b) = most_in_load a
most_in_load (tree.right op a b) = most_in_load b

-- the most of an expression and of those in its load
abbrev pub most_in_expression : Expression → ℕ
most_in_expression (tree.pure a) = pure_operators a
most_in_expression (tree.loading a) = max (loading_operators a) (most_in_load a)

-- the most of one expression of an assignment, a statement and a block
abbrev pub most_in_assignment : Assignment → ℕ
most_in_assignment (tree.to_register register value) = most_in_expression value
most_in_assignment (tree.write form variable value) = pure_operators value
most_in_assignment (tree.add variable value) = pure_operators value
most_in_assignment (tree.atomic_add value variable) = pure_operators value
most_in_assignment _ = 0

abbrev mutual
  pub most_in_statement : Statement → ℕ
  most_in_statement (tree.load_only l) = most_in_fetch l.fetch
  most_in_statement (tree.assign data_race a) = most_in_assignment a
  most_in_statement (tree.call c) = 0
  most_in_statement (tree.if_block condition body) = max (most_in_expression condition) (most_in_block body)
  most_in_statement (tree.if_else condition body otherwise) =
      max (most_in_expression condition) (max (most_in_block body) (most_in_block otherwise))
  most_in_statement (tree.for_turns register turns body) = most_in_block body

  pub most_in_block : Block → ℕ
  most_in_block tree.empty = 0
  most_in_block (tree.first s rest) = max (most_in_statement s) (most_in_block rest)
