-- A bound on how often a task goes on in its text: by it whatever goes through a text ends.
use Rattle.std.specs.Prelude.{◌+◌, ◌*◌, ◌-◌, ℕ, List, [], ◌∷◌, Option, None, Some}
use Rattle.litmus_syntax.specs.Tree.{Block, Statement}
use Rattle.litmus_syntax.specs.Tree as tree
use Rattle.litmus_syntax.specs.Views.{block_of}
use Rattle.task_plan.specs.declared.block.AtEnd.{AtEnd}
use Rattle.task_plan.specs.declared.block.AtEnd.TheVariants as ends
use Rattle.task_plan.specs.declared.block.Choice.{Choice}
use Rattle.task_plan.specs.declared.block.Loop.{Loop}
use Rattle.task_plan.specs.declared.block.OpenBlock.{OpenBlock}
use Rattle.task_plan.specs.declared.walk.Walk.{Walk}

abbrev mutual
  pub statement_cost : Statement → ℕ
  statement_cost (tree.load_only l) = 1
  statement_cost (tree.assign data_race a) = 1
  statement_cost (tree.call c) = 2
  statement_cost (tree.if_block e body) = 3 + block_cost body
  statement_cost (tree.if_else e body otherwise) = 3 + (block_cost body + block_cost otherwise)
  statement_cost (tree.for_turns r turns body) = 1 + turns * (block_cost body + 1)

  pub block_cost : Block → ℕ
  block_cost tree.empty = 0
  block_cost (tree.first statement later) = statement_cost statement + block_cost later

-- the turns of a loop from one on
abbrev pub turns_cost : Loop → ℕ → ℕ
turns_cost of number = (of.turns - number) * (block_cost (block_of of.body.now) + 1)

abbrev pub end_cost : AtEnd → ℕ
end_cost ends.Leaves = 0
end_cost (ends.Repeats turn) = turns_cost turn.of (turn.number + 1)

-- a block, with its end, and with the assertions of it that are in force
abbrev pub open_cost : OpenBlock → ℕ
open_cost block =
    1 + (block_cost (block_of block.left.now) + block.scopes + end_cost block.at_end)

abbrev pub blocks_cost : List OpenBlock → ℕ
blocks_cost [] = 0
blocks_cost (outer ∷ inner) = open_cost outer + blocks_cost inner

-- of a choice that isn't made
abbrev pub choice_cost : Option Choice → ℕ
choice_cost None = 0
choice_cost (Some choice) = open_cost choice.body + open_cost choice.otherwise

abbrev pub walk_cost : Walk → ℕ
walk_cost walk = blocks_cost walk.blocks.items + choice_cost walk.choice
