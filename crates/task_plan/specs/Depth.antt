-- How many blocks stand in each other.
use Rattle.std.specs.Prelude.{◌+◌, ℕ, max}
use Rattle.litmus_syntax.specs.Tree.{Block, Statement}
use Rattle.litmus_syntax.specs.Tree as tree

abbrev mutual
  -- how many blocks stand in each other in a statement
  pub statement_depth : Statement → ℕ
  statement_depth (tree.load_only l) = 0
  statement_depth (tree.assign data_race a) = 0
  statement_depth (tree.call c) = 0
  statement_depth (tree.if_block e body) = 1 + depth_of body
  statement_depth (tree.if_else e body otherwise) = 1 + max (depth_of body) (depth_of otherwise)
  statement_depth (tree.for_turns r turns body) = 1 + depth_of body

  -- the same in the statements of a block
  pub depth_of : Block → ℕ
  depth_of tree.empty = 0
  depth_of (tree.first statement later) = max (statement_depth statement) (depth_of later)
