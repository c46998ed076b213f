-- A statement with a block is one deeper than its block.
use Rattle.std.proofs.Common.{◌≡◌, ◌∙◌, List, [], ap, drop}
use Rattle.std.proofs.lemmas.List.{drop_all}
use Rattle.litmus_syntax.specs.Tree as tree
use Rattle.litmus_syntax.specs.Views.{block_of, expression_of, statement_of}
use Rattle.litmus_syntax.proofs.TreeLemmas.{statement_of-If, statement_of-IfElse, statement_of-For}
use Rattle.litmus_syntax.specs.declared.statement.Statement.{Statement}
use Rattle.task_plan.proofs.CountLemmas.{deep_all, deep_more, left_now, one_deeper, two_deeper}
use Rattle.task_plan.specs.Depth.{depth_of, statement_depth}
use Rattle.task_plan.proofs.count.+depth.Goals as goal

pub depth_at-returns-in-If : goal.depth_at-returns-in-If
depth_at-returns-in-If t c =
    let is : statement_of c.args.statement.now ≡ tree.if_block (expression_of c.in-If.condition) (block_of c.in-If.body.items)
    = ap statement_of c.in-If.is ∙ statement_of-If c.in-If.condition c.in-If.body in
    rw (is) (one_deeper _ c.depth_in.result _ _ (rw c.as_slice.ensures.value at c.depth_in.ensures) c.saturating_add.ensures)

pub depth_at-returns-in-IfElse : goal.depth_at-returns-in-IfElse
depth_at-returns-in-IfElse t c =
    let is : statement_of c.args.statement.now ≡ tree.if_else (expression_of c.in-IfElse.condition) (block_of c.in-IfElse.body.items) (block_of c.in-IfElse.otherwise.items)
    = ap statement_of c.in-IfElse.is ∙ statement_of-IfElse c.in-IfElse.condition c.in-IfElse.body c.in-IfElse.otherwise in
    rw (is) (two_deeper _ _ c.depth_in-in-IfElse.result c.depth_in-in-IfElse-2.result c.max.result _ _
    (rw c.as_slice-in-IfElse.ensures.value at c.depth_in-in-IfElse.ensures) (rw c.as_slice-in-IfElse-2.ensures.value at c.depth_in-in-IfElse-2.ensures)
    c.max.ensures c.saturating_add-in-IfElse.ensures)

pub depth_at-returns-in-For : goal.depth_at-returns-in-For
depth_at-returns-in-For t c =
    let is : statement_of c.args.statement.now ≡ tree.for_turns c.in-For.register c.in-For.turns (block_of c.in-For.body.items)
    = ap statement_of c.in-For.is ∙ statement_of-For c.in-For.register c.in-For.turns c.in-For.body in
    rw (is) (one_deeper _ c.depth_in-in-For.result _ _ (rw c.as_slice-in-For.ensures.value at c.depth_in-in-For.ensures) c.saturating_add-in-For.ensures)

pub depth_in-loop-statement-preserved : goal.depth_in-loop-statement-preserved
depth_in-loop-statement-preserved t c =
    let left = left_now c.args.block.now c.loop-statement.statement-index c.statement-item.result c.loop-statement-test.true c.statement-item.is in
    deep_more c.loop-statement.depth (statement_depth (statement_of c.statement-item.result)) c.depth_at.result c.max-depth.result _ _ _ _
    c.loop-statement.invariant.0 c.depth_at.ensures c.max-depth.ensures (ap (λ (these : List Statement). depth_of (block_of these)) left)
    c.loop-statement.invariant.1

pub depth_in-returns : goal.depth_in-returns
depth_in-returns t c =
    let all : drop c.loop-statement.statement-index c.args.block.now ≡ [] = drop_all c.loop-statement.statement-index c.args.block.now c.loop-statement-test.false in
    deep_all c.loop-statement.depth _ _ _ c.loop-statement.invariant.0 (ap (λ (left : List Statement). depth_of (block_of left)) all) c.loop-statement.invariant.1
