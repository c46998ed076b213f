-- A statement with blocks has one block more than stand in one another in these.
use Rattle.std.proofs.Common.{◌≡◌, ◌∙◌, ◌+◌, List, arith, sym}
use Rattle.std.proofs.lemmas.List.{at_drop_all}
use Rattle.std.specs.Prelude.{max}
use Rattle.litmus_syntax.specs.Views.{block_of}
use Rattle.litmus_syntax.specs.declared.statement.Statement.{Statement}
use Rattle.program_table.proofs.BlockLemmas.{of_for, of_if, of_if_else, of_passed}
use Rattle.program_table.specs.Counts.{capped}
use Rattle.program_table.specs.Nesting.{blocks_in, blocks_of}
use Rattle.program_table.proofs.nesting.+blocks.Goals as goal

pub blocks_in-returns : goal.blocks_in-returns
blocks_in-returns t c =
    let none = at_drop_all (λ (xs : List Statement). blocks_in (block_of xs)) c.args.block.now c.loop-statement.statement-index (omega arith) in
    omega (arith, none, c.loop-statement.invariant.small, c.loop-statement.invariant.deepest)

pub blocks_of-returns-in-If : goal.blocks_of-returns-in-If
blocks_of-returns-in-If t c =
    let body = c.blocks_in.ensures ∙ of_passed blocks_in c.in-If.body.items _ c.as_slice.ensures.value in
    let all : c.saturating_add.result ≡ capped (blocks_in (block_of c.in-If.body.items) + 1) = omega (arith, c.saturating_add.ensures, body) in
    all ∙ sym (of_if blocks_of c.args.statement.now c.in-If.condition c.in-If.body c.in-If.is)

pub blocks_of-returns-in-IfElse : goal.blocks_of-returns-in-IfElse
blocks_of-returns-in-IfElse t c =
    let first = block_of c.in-IfElse.body.items in
    let other = block_of c.in-IfElse.otherwise.items in
    let body = c.blocks_in-first.ensures ∙ of_passed blocks_in c.in-IfElse.body.items _ c.as_slice-in-IfElse.ensures.value in
    let otherwise = c.blocks_in-in-IfElse.ensures ∙ of_passed blocks_in c.in-IfElse.otherwise.items _ c.as_slice-in-IfElse-2.ensures.value in
    let both : c.max.result ≡ capped (max (blocks_in first) (blocks_in other)) = omega (arith, c.max.ensures, body, otherwise) in
    let all : c.saturating_add-in-IfElse.result ≡ capped (max (blocks_in first) (blocks_in other) + 1) =
    omega (arith, c.saturating_add-in-IfElse.ensures, both) in
    all ∙ sym (of_if_else blocks_of c.args.statement.now c.in-IfElse.condition c.in-IfElse.body c.in-IfElse.otherwise c.in-IfElse.is)

pub blocks_of-returns-in-For : goal.blocks_of-returns-in-For
blocks_of-returns-in-For t c =
    let body = c.blocks_in-in-For.ensures ∙ of_passed blocks_in c.in-For.body.items _ c.as_slice-in-For.ensures.value in
    let all : c.saturating_add-in-For.result ≡ capped (blocks_in (block_of c.in-For.body.items) + 1) = omega (arith, c.saturating_add-in-For.ensures, body) in
    all ∙ sym (of_for blocks_of c.args.statement.now c.in-For.register c.in-For.turns c.in-For.body c.in-For.is)
