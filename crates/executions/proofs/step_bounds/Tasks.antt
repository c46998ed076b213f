-- How many steps a task makes whose text keeps the limits.
use Rattle.std.proofs.Common.{◌≤◌, ◌+◌, ◌*◌, ◌^◌, ◌++◌, [], ℕ, List, arith, length, reverse}
use Rattle.std.proofs.Math.Nat.{mul-le-mul_right}
use Rattle.litmus_syntax.specs.Limits.{BlockTurns, BodyKeepsLimits, StatementTurns, block_count, statement_count}
use Rattle.litmus_syntax.specs.Tree.{Block, Statement}
use Rattle.litmus_syntax.specs.Tree as tree
use Rattle.slot_table.specs.declared.records.Record.{Record}
use Rattle.executions.proofs.step_bounds.Firm.{few_within, firm, firm_front}
use Rattle.executions.proofs.step_bounds.Texts.{block_part, block_steps, statement_steps}
use Rattle.program_order.specs.Standing.{Setting}
use Rattle.program_order.specs.Waits.{WithinTurns}
use Rattle.program_order.specs.WrittenOrder.{WrittenOrder, at_first}

-- by how many statements there are, where the loops round them repeat them so often
mutual
  statement_most : (statement : Statement) (turns : ℕ) → turns ≤ 256 → StatementTurns turns statement
      → turns * statement_steps statement ≤ 65536 * statement_count statement
  statement_most (tree.load_only l) turns few fits = omega (arith, few)
  statement_most (tree.assign data_race a) turns few fits = omega (arith, few)
  statement_most (tree.call c) turns few fits = omega (arith, few)
  statement_most (tree.if_block e body) turns few fits =
      let own = block_most body turns few fits in omega (arith, few, own)
  statement_most (tree.if_else e body otherwise) turns few fits =
      let first = block_most body turns few fits.0 in
      let second = block_most otherwise turns few fits.1 in
      omega (arith, few, first, second)
  statement_most (tree.for_turns r inner body) turns few fits =
      let own = block_most body (turns * inner) fits.1.0 fits.1.1 in omega (arith, own)

  block_most : (body : Block) (turns : ℕ) → turns ≤ 256 → BlockTurns turns body → turns * block_steps body ≤ 65536 * block_count body
  block_most tree.empty turns few fits = omega arith
  block_most (tree.first statement rest) turns few fits =
      let first = statement_most statement turns few fits.0 in
      let later = block_most rest turns few fits.1 in
      omega (arith, first, later)

few_in_text : (body : Block) → BodyKeepsLimits body → block_steps body ≤ 2 ^ 24
few_in_text body keeps =
    let most = block_most body 1 (omega arith) keeps.turns in
    let statements = keeps.statements in
    omega (arith, most, statements)

few_firm : (s : Setting) (registers : ℕ) (body : Block) (records : List Record) → BodyKeepsLimits body
    → WrittenOrder s registers body records
    → firm records ≤ 2 ^ 25
few_firm s registers body records keeps written =
    let all = (block_part s body 0 0 (omega arith) keeps.scopes (at_first registers)
    (records ++ written.more) written.whole.end [] written.whole.steps).few
    (omega arith) in
    let front = firm_front records written.more in
    let most = few_in_text body keeps in
    omega (arith, all, front, most)

pub few_of_task : (s : Setting) (registers : ℕ) (body : Block) (records : List Record) → BodyKeepsLimits body
    → WrittenOrder s registers body records
    → WithinTurns s.rules.turns (reverse records) → length records ≤ 2 ^ 25 * (s.rules.turns + 1)
few_of_task s registers body records keeps written within =
    let few = few_within s.rules.turns records within in
    let most = mul-le-mul_right (s.rules.turns + 1) (few_firm s registers body records keeps written) in
    omega (arith, few, most)
