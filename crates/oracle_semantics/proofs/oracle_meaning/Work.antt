-- How much there is to walk through in a text with values given for its reads, turn by turn.
use Rattle.std.proofs.Common.{◌+◌, ◌*◌, ℕ, suc}
use Rattle.litmus_syntax.specs.Tree.{Block, Statement}
use Rattle.litmus_syntax.specs.Tree as tree

-- so many turns of a body
abbrev pub turns_work : ℕ → ℕ → ℕ
turns_work left body = suc (left * suc body)

abbrev mutual
  pub statement_work : Statement → ℕ
  statement_work (tree.load_only l) = 1
  statement_work (tree.assign data_race a) = 1
  statement_work (tree.call c) = 1
  statement_work (tree.if_block e body) = suc (suc (block_work body))
  statement_work (tree.if_else e body otherwise) = suc (suc (block_work body + block_work otherwise))
  statement_work (tree.for_turns r turns body) = suc (turns_work turns (block_work body))

  pub block_work : Block → ℕ
  block_work tree.empty = 0
  block_work (tree.first statement rest) = suc (statement_work statement + block_work rest)
