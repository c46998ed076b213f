-- A comparison stands in a statement with blocks where it stands in its condition or in these.
use Rattle.std.proofs.Common.{◌≡◌, ◌∙◌, sym}
use Rattle.std.specs.Prelude.{◌||◌}
use Rattle.litmus_syntax.specs.Views.{block_of, expression_of}
use Rattle.check_warnings.proofs.StatementLemmas.{of_for, of_if, of_if_else, of_passed, or_else, or_then}
use Rattle.check_warnings.specs.Comparisons.{in_block, in_expression, in_statement}
use Rattle.check_warnings.proofs.comparisons.+statements.Goals as goal
use Rattle.check_warnings.proofs.comparisons.+statements.Goals.{in_statement-else-in_expression-2, in_statement-then-in_expression-2}

pub in_statement-returns-else-in_expression : goal.in_statement-returns-else-in_expression
in_statement-returns-else-in_expression t c =
    let body = c.in_block.ensures ∙ of_passed (in_block c.args.variable c.args.contents) c.in-If.body.items _ c.as_slice.ensures.value in
    or_else _ _ _ _ c.in_expression.ensures c.if-in_expression.false body
    ∙ sym (of_if (in_statement c.args.variable c.args.contents) c.args.statement.now c.in-If.condition c.in-If.body c.in-If.is)

pub in_statement-returns-then-in_block : goal.in_statement-returns-then-in_block
in_statement-returns-then-in_block t c =
    let first : c.if-in_expression-2.value
    ≡ (in_expression c.args.variable c.args.contents (expression_of c.in-IfElse.condition) || in_block c.args.variable c.args.contents (block_of c.in-IfElse.body.items)) =
    elim c.if-in_expression-2.branch [
      | in_statement-then-in_expression-2 w ↦ w.value-is
          ∙ or_then _ _ (in_block c.args.variable c.args.contents (block_of c.in-IfElse.body.items)) c.in_expression-in-IfElse.ensures w.if-in_expression-2.true
      | in_statement-else-in_expression-2 w ↦ w.value-is
          ∙ or_else _ _ _ _ c.in_expression-in-IfElse.ensures w.if-in_expression-2.false
          (w.in_block-else-in_expression-2.ensures
          ∙ of_passed (in_block c.args.variable c.args.contents) c.in-IfElse.body.items _ w.as_slice-else-in_expression-2.ensures.value)
    ] in
    or_then _ _ (in_block c.args.variable c.args.contents (block_of c.in-IfElse.otherwise.items)) first c.if-in_block.true
    ∙ sym (of_if_else (in_statement c.args.variable c.args.contents) c.args.statement.now c.in-IfElse.condition c.in-IfElse.body c.in-IfElse.otherwise c.in-IfElse.is)

pub in_statement-returns-else-in_block : goal.in_statement-returns-else-in_block
in_statement-returns-else-in_block t c =
    let first : c.if-in_expression-2.value
    ≡ (in_expression c.args.variable c.args.contents (expression_of c.in-IfElse.condition) || in_block c.args.variable c.args.contents (block_of c.in-IfElse.body.items)) =
    elim c.if-in_expression-2.branch [
      | in_statement-then-in_expression-2 w ↦ w.value-is
          ∙ or_then _ _ (in_block c.args.variable c.args.contents (block_of c.in-IfElse.body.items)) c.in_expression-in-IfElse.ensures w.if-in_expression-2.true
      | in_statement-else-in_expression-2 w ↦ w.value-is
          ∙ or_else _ _ _ _ c.in_expression-in-IfElse.ensures w.if-in_expression-2.false
          (w.in_block-else-in_expression-2.ensures
          ∙ of_passed (in_block c.args.variable c.args.contents) c.in-IfElse.body.items _ w.as_slice-else-in_expression-2.ensures.value)
    ] in
    or_else _ _ _ _ first c.if-in_block.false
    (c.in_block-else-in_block.ensures ∙ of_passed (in_block c.args.variable c.args.contents) c.in-IfElse.otherwise.items _ c.as_slice-else-in_block.ensures.value)
    ∙ sym (of_if_else (in_statement c.args.variable c.args.contents) c.args.statement.now c.in-IfElse.condition c.in-IfElse.body c.in-IfElse.otherwise c.in-IfElse.is)

pub in_statement-returns-in-For : goal.in_statement-returns-in-For
in_statement-returns-in-For t c =
    c.in_block-in-For.ensures ∙ of_passed (in_block c.args.variable c.args.contents) c.in-For.body.items _ c.as_slice-in-For.ensures.value
    ∙ sym (of_for (in_statement c.args.variable c.args.contents) c.args.statement.now c.in-For.register c.in-For.turns c.in-For.body c.in-For.is)
