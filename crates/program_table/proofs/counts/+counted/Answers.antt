-- A statement with blocks is as many statements as these have, and one.
use Rattle.std.proofs.Common.{◌≡◌, ◌∙◌, ◌+◌, List, arith, sym}
use Rattle.std.proofs.lemmas.List.{at_drop_all}
use Rattle.litmus_syntax.specs.Limits.{block_count, statement_count}
use Rattle.litmus_syntax.specs.Views.{block_of}
use Rattle.litmus_syntax.specs.declared.statement.Statement.{Statement}
use Rattle.program_table.proofs.BlockLemmas.{of_for, of_if, of_if_else, of_passed}
use Rattle.program_table.specs.Counts.{capped}
use Rattle.program_table.proofs.counts.+counted.Goals as goal

pub in_block-returns : goal.in_block-returns
in_block-returns t c =
    let none = at_drop_all (λ (xs : List Statement). block_count (block_of xs)) c.args.block.now c.loop-statement.statement-index (omega arith) in
    omega (arith, none, c.loop-statement.invariant.small, c.loop-statement.invariant.counted)

pub in_statement-returns-in-If : goal.in_statement-returns-in-If
in_statement-returns-in-If t c =
    let body = c.in_block.ensures ∙ of_passed block_count c.in-If.body.items _ c.as_slice.ensures.value in
    let all : c.saturating_add.result ≡ capped (block_count (block_of c.in-If.body.items) + 1) = omega (arith, c.saturating_add.ensures, body) in
    all ∙ sym (of_if statement_count c.args.statement.now c.in-If.condition c.in-If.body c.in-If.is)

pub in_statement-returns-in-IfElse : goal.in_statement-returns-in-IfElse
in_statement-returns-in-IfElse t c =
    let first = block_of c.in-IfElse.body.items in
    let other = block_of c.in-IfElse.otherwise.items in
    let body = c.in_block-first.ensures ∙ of_passed block_count c.in-IfElse.body.items _ c.as_slice-in-IfElse.ensures.value in
    let otherwise = c.in_block-in-IfElse.ensures ∙ of_passed block_count c.in-IfElse.otherwise.items _ c.as_slice-in-IfElse-2.ensures.value in
    let both : c.saturating_add-in-IfElse.result ≡ capped (block_count first + block_count other) =
    omega (arith, c.saturating_add-in-IfElse.ensures, body, otherwise) in
    let all : c.saturating_add-in-IfElse-2.result ≡ capped (block_count first + block_count other + 1) =
    omega (arith, c.saturating_add-in-IfElse-2.ensures, both) in
    all ∙ sym (of_if_else statement_count c.args.statement.now c.in-IfElse.condition c.in-IfElse.body c.in-IfElse.otherwise c.in-IfElse.is)

pub in_statement-returns-in-For : goal.in_statement-returns-in-For
in_statement-returns-in-For t c =
    let body = c.in_block-in-For.ensures ∙ of_passed block_count c.in-For.body.items _ c.as_slice-in-For.ensures.value in
    let all : c.saturating_add-in-For.result ≡ capped (block_count (block_of c.in-For.body.items) + 1) = omega (arith, c.saturating_add-in-For.ensures, body) in
    all ∙ sym (of_for statement_count c.args.statement.now c.in-For.register c.in-For.turns c.in-For.body c.in-For.is)
