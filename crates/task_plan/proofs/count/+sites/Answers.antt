-- A statement with a block has its own access besides those of the block.
use Rattle.std.proofs.Common.{◌≡◌, ◌∙◌, ◌+◌, Bool, List, [], ap, drop, if◌then◌else◌, length, length-append}
use Rattle.std.proofs.lemmas.List.{drop_all}
use Rattle.litmus_syntax.specs.Sites.{accesses_of, has_access, sites_of}
use Rattle.litmus_syntax.specs.Tree as tree
use Rattle.litmus_syntax.specs.Views.{block_of, expression_of, statement_of}
use Rattle.litmus_syntax.proofs.TreeLemmas.{statement_of-If, statement_of-IfElse, statement_of-For}
use Rattle.litmus_syntax.specs.declared.statement.Statement.{Statement}
use Rattle.task_plan.proofs.CountLemmas.{counted_all, counted_more, else_counts, if_counts, left_now, one_capped, two_capped}
use Rattle.task_plan.proofs.count.+sites.Goals as goal

pub sites_in-returns : goal.sites_in-returns
sites_in-returns t c =
    let all : drop c.loop-statement.statement-index c.args.block.now ≡ [] = drop_all c.loop-statement.statement-index c.args.block.now c.loop-statement-test.false in
    counted_all c.loop-statement.count _ _ _ c.loop-statement.invariant.0 (ap (λ left. length (sites_of (block_of left))) all) c.loop-statement.invariant.1

pub accesses_in-returns-in-For : goal.accesses_in-returns-in-For
accesses_in-returns-in-For t c =
    let is : statement_of c.args.statement.now ≡ tree.for_turns c.in-For.register c.in-For.turns (block_of c.in-For.body.items)
    = ap statement_of c.in-For.is ∙ statement_of-For c.in-For.register c.in-For.turns c.in-For.body in
    rw (is) (rw c.as_slice-in-For.ensures.value at c.sites_in-in-For.ensures)

pub accesses_in-returns-in-If : goal.accesses_in-returns-in-If
accesses_in-returns-in-If t c =
    let is : statement_of c.args.statement.now ≡ tree.if_block (expression_of c.in-If.condition) (block_of c.in-If.body.items)
    = ap statement_of c.in-If.is ∙ statement_of-If c.in-If.condition c.in-If.body in
    let own : c.one_if-itself.result ≡ (if has_access (tree.if_block (expression_of c.in-If.condition) (block_of c.in-If.body.items)) then 1 else 0)
    = c.one_if-itself.ensures ∙ ap (λ (has : Bool). if has then 1 else 0) (c.has_access.ensures ∙ ap has_access is) in
    rw (is, if_counts (expression_of c.in-If.condition) (block_of c.in-If.body.items))
    (one_capped _ _ c.sites_in.result _ _ (rw c.as_slice.ensures.value at c.sites_in.ensures) (rw own at c.saturating_add.ensures))

pub accesses_in-returns-in-IfElse : goal.accesses_in-returns-in-IfElse
accesses_in-returns-in-IfElse t c =
    let is : statement_of c.args.statement.now ≡ tree.if_else (expression_of c.in-IfElse.condition) (block_of c.in-IfElse.body.items) (block_of c.in-IfElse.otherwise.items)
    = ap statement_of c.in-IfElse.is ∙ statement_of-IfElse c.in-IfElse.condition c.in-IfElse.body c.in-IfElse.otherwise in
    let own : c.one_if-itself.result ≡ (if has_access (tree.if_else (expression_of c.in-IfElse.condition) (block_of c.in-IfElse.body.items) (block_of c.in-IfElse.otherwise.items)) then 1 else 0)
    = c.one_if-itself.ensures ∙ ap (λ (has : Bool). if has then 1 else 0) (c.has_access.ensures ∙ ap has_access is) in
    rw (is, else_counts (expression_of c.in-IfElse.condition) (block_of c.in-IfElse.body.items) (block_of c.in-IfElse.otherwise.items))
    (two_capped _ _ _ c.sites_in-in-IfElse.result c.sites_in-in-IfElse-2.result c.saturating_add-in-IfElse.result _ _
    (rw c.as_slice-in-IfElse.ensures.value at c.sites_in-in-IfElse.ensures) (rw c.as_slice-in-IfElse-2.ensures.value at c.sites_in-in-IfElse-2.ensures)
    c.saturating_add-in-IfElse.ensures (rw own at c.saturating_add-in-IfElse-2.ensures))

pub sites_in-loop-statement-preserved : goal.sites_in-loop-statement-preserved
sites_in-loop-statement-preserved t c =
    let left = left_now c.args.block.now c.loop-statement.statement-index c.statement-item.result c.loop-statement-test.true c.statement-item.is in
    let own = accesses_of (statement_of c.statement-item.result) in
    let rest = sites_of (block_of (drop (c.loop-statement.statement-index + 1) c.args.block.now)) in
    counted_more c.loop-statement.count (length own) c.accesses_in.result c.saturating_add-count.result (length rest) _ _ _
    c.loop-statement.invariant.0 c.accesses_in.ensures c.saturating_add-count.ensures
    (ap (λ (these : List Statement). length (sites_of (block_of these))) left ∙ length-append own rest)
    c.loop-statement.invariant.1
