-- A statement with blocks has the most of its condition and of these.
use Rattle.std.proofs.Common.{◌≡◌, ◌∙◌, List, arith, sym}
use Rattle.std.proofs.lemmas.List.{at_drop_all}
use Rattle.std.specs.Prelude.{max}
use Rattle.litmus_syntax.specs.Views.{block_of, expression_of}
use Rattle.litmus_syntax.specs.declared.statement.Statement.{Statement}
use Rattle.program_table.proofs.BlockLemmas.{of_for, of_if, of_if_else, of_passed}
use Rattle.program_table.specs.Counts.{capped}
use Rattle.program_table.specs.Operators.{most_in_block, most_in_expression, most_in_statement}
use Rattle.program_table.proofs.operators.+most.Goals as goal

pub most_in_block-returns : goal.most_in_block-returns
most_in_block-returns t c =
    let none = at_drop_all (λ (xs : List Statement). most_in_block (block_of xs)) c.args.block.now c.loop-statement.statement-index (omega arith) in
    omega (arith, none, c.loop-statement.invariant.small, c.loop-statement.invariant.largest)

pub most_in_statement-returns-in-If : goal.most_in_statement-returns-in-If
most_in_statement-returns-in-If t c =
    let body = c.most_in_block.ensures ∙ of_passed most_in_block c.in-If.body.items _ c.as_slice.ensures.value in
    let all : c.max.result ≡ capped (max (most_in_expression (expression_of c.in-If.condition)) (most_in_block (block_of c.in-If.body.items))) =
    omega (arith, c.max.ensures, c.most_in_expression-own.ensures, body) in
    all ∙ sym (of_if most_in_statement c.args.statement.now c.in-If.condition c.in-If.body c.in-If.is)

pub most_in_statement-returns-in-IfElse : goal.most_in_statement-returns-in-IfElse
most_in_statement-returns-in-IfElse t c =
    let own = most_in_expression (expression_of c.in-IfElse.condition) in
    let first = most_in_block (block_of c.in-IfElse.body.items) in
    let other = most_in_block (block_of c.in-IfElse.otherwise.items) in
    let body = c.most_in_block-first.ensures ∙ of_passed most_in_block c.in-IfElse.body.items _ c.as_slice-in-IfElse.ensures.value in
    let otherwise = c.most_in_block-in-IfElse.ensures ∙ of_passed most_in_block c.in-IfElse.otherwise.items _ c.as_slice-in-IfElse-2.ensures.value in
    let both : c.max-in-IfElse.result ≡ capped (max first other) = omega (arith, c.max-in-IfElse.ensures, body, otherwise) in
    let all : c.max-in-IfElse-2.result ≡ capped (max own (max first other)) =
    omega (arith, c.max-in-IfElse-2.ensures, c.most_in_expression-own-in-IfElse.ensures, both) in
    all ∙ sym (of_if_else most_in_statement c.args.statement.now c.in-IfElse.condition c.in-IfElse.body c.in-IfElse.otherwise c.in-IfElse.is)

pub most_in_statement-returns-in-For : goal.most_in_statement-returns-in-For
most_in_statement-returns-in-For t c =
    c.most_in_block-in-For.ensures ∙ of_passed most_in_block c.in-For.body.items _ c.as_slice-in-For.ensures.value
    ∙ sym (of_for most_in_statement c.args.statement.now c.in-For.register c.in-For.turns c.in-For.body c.in-For.is)
