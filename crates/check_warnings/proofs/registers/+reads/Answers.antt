-- A statement with blocks reads what its condition and these read.
use Rattle.std.proofs.Common.{◌≡◌, ◌∙◌, sym}
use Rattle.std.specs.Prelude.{◌||◌}
use Rattle.litmus_syntax.specs.Views.{block_of, expression_of}
use Rattle.check_warnings.proofs.StatementLemmas.{of_for, of_if, of_if_else, of_passed, or_else, or_then}
use Rattle.check_warnings.specs.Registers.{in_expression, reads, reads_in}
use Rattle.check_warnings.proofs.registers.+reads.Goals as goal
use Rattle.check_warnings.proofs.registers.+reads.Goals.{reads-else-in_expression-2, reads-then-in_expression-2}

pub reads-returns-else-in_expression : goal.reads-returns-else-in_expression
reads-returns-else-in_expression t c =
    let body = c.reads_in.ensures ∙ of_passed (reads_in c.args.register) c.in-If.body.items _ c.as_slice.ensures.value in
    or_else _ _ _ _ c.in_expression.ensures c.if-in_expression.false body
    ∙ sym (of_if (reads c.args.register) c.args.statement.now c.in-If.condition c.in-If.body c.in-If.is)

pub reads-returns-then-reads_in : goal.reads-returns-then-reads_in
reads-returns-then-reads_in t c =
    let first : c.if-in_expression-2.value
    ≡ (in_expression c.args.register (expression_of c.in-IfElse.condition) || reads_in c.args.register (block_of c.in-IfElse.body.items)) =
    elim c.if-in_expression-2.branch [
      | reads-then-in_expression-2 w ↦ w.value-is
          ∙ or_then _ _ (reads_in c.args.register (block_of c.in-IfElse.body.items)) c.in_expression-in-IfElse.ensures w.if-in_expression-2.true
      | reads-else-in_expression-2 w ↦ w.value-is
          ∙ or_else _ _ _ _ c.in_expression-in-IfElse.ensures w.if-in_expression-2.false
          (w.reads_in-else-in_expression-2.ensures
          ∙ of_passed (reads_in c.args.register) c.in-IfElse.body.items _ w.as_slice-else-in_expression-2.ensures.value)
    ] in
    or_then _ _ (reads_in c.args.register (block_of c.in-IfElse.otherwise.items)) first c.if-reads_in.true
    ∙ sym (of_if_else (reads c.args.register) c.args.statement.now c.in-IfElse.condition c.in-IfElse.body c.in-IfElse.otherwise c.in-IfElse.is)

pub reads-returns-else-reads_in : goal.reads-returns-else-reads_in
reads-returns-else-reads_in t c =
    let first : c.if-in_expression-2.value
    ≡ (in_expression c.args.register (expression_of c.in-IfElse.condition) || reads_in c.args.register (block_of c.in-IfElse.body.items)) =
    elim c.if-in_expression-2.branch [
      | reads-then-in_expression-2 w ↦ w.value-is
          ∙ or_then _ _ (reads_in c.args.register (block_of c.in-IfElse.body.items)) c.in_expression-in-IfElse.ensures w.if-in_expression-2.true
      | reads-else-in_expression-2 w ↦ w.value-is
          ∙ or_else _ _ _ _ c.in_expression-in-IfElse.ensures w.if-in_expression-2.false
          (w.reads_in-else-in_expression-2.ensures
          ∙ of_passed (reads_in c.args.register) c.in-IfElse.body.items _ w.as_slice-else-in_expression-2.ensures.value)
    ] in
    or_else _ _ _ _ first c.if-reads_in.false
    (c.reads_in-else-reads_in.ensures ∙ of_passed (reads_in c.args.register) c.in-IfElse.otherwise.items _ c.as_slice-else-reads_in.ensures.value)
    ∙ sym (of_if_else (reads c.args.register) c.args.statement.now c.in-IfElse.condition c.in-IfElse.body c.in-IfElse.otherwise c.in-IfElse.is)

pub reads-returns-in-For : goal.reads-returns-in-For
reads-returns-in-For t c =
    c.reads_in-in-For.ensures ∙ of_passed (reads_in c.args.register) c.in-For.body.items _ c.as_slice-in-For.ensures.value
    ∙ sym (of_for (reads c.args.register) c.args.statement.now c.in-For.register c.in-For.turns c.in-For.body c.in-For.is)
