-- How many blocks of a task are open at one place, and how many scoped assertions are in force there.
use Rattle.std.specs.Prelude.{◌+◌, ℕ, max}
use Rattle.litmus_syntax.specs.Limits.{scopes_of}
use Rattle.litmus_syntax.specs.Tree.{Block, Statement}
use Rattle.litmus_syntax.specs.Tree as tree

abbrev mutual
  -- how many blocks of a statement stand in one another, at most
  pub blocks_of : Statement → ℕ
  blocks_of (tree.if_block condition body) = blocks_in body + 1
  blocks_of (tree.if_else condition body otherwise) = max (blocks_in body) (blocks_in otherwise) + 1
  blocks_of (tree.for_turns register turns body) = blocks_in body + 1
  blocks_of _ = 0

  -- the same in a block, itself aside
  pub blocks_in : Block → ℕ
  blocks_in tree.empty = 0
  blocks_in (tree.first s rest) = max (blocks_of s) (blocks_in rest)

-- how many blocks are open at the deepest place of a task, its body included
abbrev pub open_blocks : (body : Block) → ℕ
open_blocks body = blocks_in body + 1

abbrev mutual
  -- how many scoped assertions that begin in the blocks of a statement are in force at one place, at most
  pub scoped_of : Statement → ℕ
  scoped_of (tree.if_block condition body) = scoped_in body
  scoped_of (tree.if_else condition body otherwise) = max (scoped_in body) (scoped_in otherwise)
  scoped_of (tree.for_turns register turns body) = scoped_in body
  scoped_of _ = 0

  -- the same of a block: one that begins in it is in force up to its end
  pub scoped_in : Block → ℕ
  scoped_in tree.empty = 0
  scoped_in (tree.first s rest) = max (scoped_of s) (scopes_of s + scoped_in rest)
