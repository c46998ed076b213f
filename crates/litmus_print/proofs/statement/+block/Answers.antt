-- What is appended is the first line and what its calls appended behind it.
use Rattle.std.proofs.Common.{◌≡◌, append_assoc, ap, ◌∙◌}
use Rattle.litmus_syntax.specs.Tree as tree
use Rattle.litmus_syntax.specs.Views.{block_of, expression_of, statement_of}
use Rattle.litmus_syntax.proofs.TreeLemmas.{statement_of-If, statement_of-IfElse, statement_of-For}
use Rattle.litmus_print.proofs.statement.+block.Goals as goal

pub append_statement-returns-in_ok-append_if-in-If :
    goal.append_statement-returns-in_ok-append_if-in-If
append_statement-returns-in_ok-append_if-in-If t c =
    let is : statement_of c.args.statement.now ≡ tree.if_block (expression_of c.in-If.condition) (block_of c.in-If.body.items)
    = ap statement_of c.in-If.is ∙ statement_of-If c.in-If.condition c.in-If.body in
    rw (is, ← c.as_slice.ensures.value)
    (simp append_assoc (simp append_assoc at (rw c.in_ok-append_if-in-If.ensures at c.append_closed.ensures)))

pub append_statement-returns-in_ok-append_line-in-IfElse :
    goal.append_statement-returns-in_ok-append_line-in-IfElse
append_statement-returns-in_ok-append_line-in-IfElse t c =
    let is : statement_of c.args.statement.now ≡ tree.if_else (expression_of c.in-IfElse.condition) (block_of c.in-IfElse.body.items) (block_of c.in-IfElse.otherwise.items)
    = ap statement_of c.in-IfElse.is ∙ statement_of-IfElse c.in-IfElse.condition c.in-IfElse.body c.in-IfElse.otherwise in
    rw (is, ← c.as_slice-in-IfElse.ensures.value, ← c.as_slice-in-IfElse-2.ensures.value)
    (simp append_assoc
    (simp append_assoc at
    (rw (c.in_ok-append_line-in-IfElse.ensures, c.in_ok-append_inner-in-IfElse.ensures, c.in_ok-append_if-in-IfElse.ensures)
    at c.append_closed-in-IfElse.ensures)))

pub append_statement-returns-in_ok-append_for-in-For :
    goal.append_statement-returns-in_ok-append_for-in-For
append_statement-returns-in_ok-append_for-in-For t c =
    let is : statement_of c.args.statement.now ≡ tree.for_turns c.in-For.register c.in-For.turns (block_of c.in-For.body.items)
    = ap statement_of c.in-For.is ∙ statement_of-For c.in-For.register c.in-For.turns c.in-For.body in
    rw (is, ← c.as_slice-in-For.ensures.value)
    (simp append_assoc (simp append_assoc at (rw c.in_ok-append_for-in-For.ensures at c.append_closed-in-For.ensures)))
