-- A text within the limits has few blocks in one another, and few scoped assertions in force.
use Rattle.std.proofs.Common.{◌+◌, ◌≤◌, ℕ, arith}
use Rattle.litmus_syntax.specs.Limits.{BlockScopes, BodyKeepsLimits, StatementScopes, block_count, scopes_of, statement_count}
use Rattle.litmus_syntax.specs.Tree.{Block, Statement}
use Rattle.litmus_syntax.specs.Tree as tree
use Rattle.program_table.specs.Nesting.{blocks_in, blocks_of, scoped_in, scoped_of}

-- no more blocks than statements
mutual
  few_blocks_of : (s : Statement) → blocks_of s ≤ statement_count s
  few_blocks_of (tree.load_only l) = omega arith
  few_blocks_of (tree.assign data_race a) = omega arith
  few_blocks_of (tree.call c) = omega arith
  few_blocks_of (tree.if_block condition body) = omega (arith, few_blocks_in body)
  few_blocks_of (tree.if_else condition body otherwise) = omega (arith, few_blocks_in body, few_blocks_in otherwise)
  few_blocks_of (tree.for_turns register turns body) = omega (arith, few_blocks_in body)

  pub few_blocks_in : (b : Block) → blocks_in b ≤ block_count b
  few_blocks_in tree.empty = omega arith
  few_blocks_in (tree.first s rest) = omega (arith, few_blocks_of s, few_blocks_in rest)

-- no more scopes behind a statement than may be
few_behind : (scopes : ℕ) (s : Statement) → scopes ≤ 8 → StatementScopes scopes s → scopes + scopes_of s ≤ 8
few_behind scopes (tree.load_only l) few keeps = omega (arith, few)
few_behind scopes (tree.assign data_race a) few keeps = omega (arith, few)
few_behind scopes (tree.call c) few keeps = keeps
few_behind scopes (tree.if_block condition body) few keeps = omega (arith, few)
few_behind scopes (tree.if_else condition body otherwise) few keeps = omega (arith, few)
few_behind scopes (tree.for_turns register turns body) few keeps = omega (arith, few)

mutual
  few_scoped_of : (scopes : ℕ) (s : Statement) → scopes ≤ 8 → StatementScopes scopes s → scopes + scoped_of s ≤ 8
  few_scoped_of scopes (tree.load_only l) few keeps = omega (arith, few)
  few_scoped_of scopes (tree.assign data_race a) few keeps = omega (arith, few)
  few_scoped_of scopes (tree.call c) few keeps = omega (arith, few)
  few_scoped_of scopes (tree.if_block condition body) few keeps = few_scoped_in scopes body few keeps
  few_scoped_of scopes (tree.if_else condition body otherwise) few keeps =
      omega (arith, few_scoped_in scopes body few keeps.0, few_scoped_in scopes otherwise few keeps.1)
  few_scoped_of scopes (tree.for_turns register turns body) few keeps = few_scoped_in scopes body few keeps

  few_scoped_in : (scopes : ℕ) (b : Block) → scopes ≤ 8 → BlockScopes scopes b → scopes + scoped_in b ≤ 8
  few_scoped_in scopes tree.empty few keeps = omega (arith, few)
  few_scoped_in scopes (tree.first s rest) few keeps =
      let behind : scopes + scopes_of s ≤ 8 = few_behind scopes s few keeps.0 in
      omega (arith, few_scoped_of scopes s few keeps.0, few_scoped_in (scopes + scopes_of s) rest behind keeps.1)

pub few_scoped : (body : Block) → BodyKeepsLimits body → scoped_in body ≤ 8
few_scoped body keeps = omega (arith, few_scoped_in 0 body (omega arith) keeps.scopes)
