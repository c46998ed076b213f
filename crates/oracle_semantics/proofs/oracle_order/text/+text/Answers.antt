-- Each part of a text is read by its form, and each part of a part is less.
use Rattle.std.proofs.Common.{◌≡◌, ◌<◌, ◌+◌, ◌∷◌, [], ◌∙◌, ℕ, IfOk, List, None, ap, arith, length, refl, subst, suc, sym}
use Rattle.std.proofs.lemmas.Result.{IfOk-weaker}
use Rattle.litmus_semantics.specs.Calls.{scoped_assertion}
use Rattle.litmus_syntax.proofs.TreeLemmas.{statement_of-If, statement_of-IfElse, statement_of-For}
use Rattle.litmus_syntax.specs.Sites.{accesses_of, sites_of}
use Rattle.litmus_syntax.specs.Tree as tree
use Rattle.litmus_syntax.specs.Views.{block_of, expression_of, statement_of}
use Rattle.litmus_syntax.specs.declared.statement.Statement.{Statement}
use Rattle.oracle_semantics.proofs.oracle_order.OrderLemmas.{Decides, block_first, else_goes, else_other, if_goes, if_passed, turns_more, turns_over}
use Rattle.oracle_semantics.proofs.oracle_order.Work.{block_work, statement_work, turns_work}
use Rattle.oracle_semantics.specs.oracle_order.Walks.{Goes, stands}
use Rattle.program_order.specs.WrittenOrder.{StepsOfBlock}
use Rattle.oracle_semantics.proofs.oracle_order.text.+text.Goals as goal

abbrev work_in : List Statement → ℕ
work_in statements = block_work (block_of statements)

pub statement-block-requires : goal.statement-block-requires
statement-block-requires t c =
    let is : statement_of c.args.statement.now ≡ tree.if_block (expression_of c.in-If.condition) (block_of c.in-If.body.items)
    = ap statement_of c.in-If.is ∙ statement_of-If c.in-If.condition c.in-If.body in
    let whole : statement_work (statement_of c.args.statement.now) ≡ t = c.decreases in
    let work : statement_work (statement_of c.args.statement.now) ≡ suc (work_in c.in-If.body.items) = ap statement_work is in
    let inside : work_in c.as_slice.result.now ≡ work_in c.in-If.body.items = ap work_in c.as_slice.ensures.value in
    let less : work_in c.as_slice.result.now < t = omega (arith, whole, work, inside) in
    (less, tt)

pub statement-block-requires-then-value-eq0-2 : goal.statement-block-requires-then-value-eq0-2
statement-block-requires-then-value-eq0-2 t c =
    let is : statement_of c.args.statement.now ≡ tree.if_else (expression_of c.in-IfElse.condition) (block_of c.in-IfElse.body.items) (block_of c.in-IfElse.otherwise.items)
    = ap statement_of c.in-IfElse.is ∙ statement_of-IfElse c.in-IfElse.condition c.in-IfElse.body c.in-IfElse.otherwise in
    let whole : statement_work (statement_of c.args.statement.now) ≡ t = c.decreases in
    let work : statement_work (statement_of c.args.statement.now) ≡ suc (work_in c.in-IfElse.body.items + work_in c.in-IfElse.otherwise.items) = ap statement_work is in
    let inside : work_in c.as_slice-then-value-eq0-2-2.result.now ≡ work_in c.in-IfElse.otherwise.items = ap work_in c.as_slice-then-value-eq0-2-2.ensures.value in
    let less : work_in c.as_slice-then-value-eq0-2-2.result.now < t = omega (arith, whole, work, inside) in
    (less, tt)

pub statement-block-requires-in-IfElse : goal.statement-block-requires-in-IfElse
statement-block-requires-in-IfElse t c =
    let is : statement_of c.args.statement.now ≡ tree.if_else (expression_of c.in-IfElse.condition) (block_of c.in-IfElse.body.items) (block_of c.in-IfElse.otherwise.items)
    = ap statement_of c.in-IfElse.is ∙ statement_of-IfElse c.in-IfElse.condition c.in-IfElse.body c.in-IfElse.otherwise in
    let whole : statement_work (statement_of c.args.statement.now) ≡ t = c.decreases in
    let work : statement_work (statement_of c.args.statement.now) ≡ suc (work_in c.in-IfElse.body.items + work_in c.in-IfElse.otherwise.items) = ap statement_work is in
    let inside : work_in c.as_slice-in-IfElse.result.now ≡ work_in c.in-IfElse.body.items = ap work_in c.as_slice-in-IfElse.ensures.value in
    let less : work_in c.as_slice-in-IfElse.result.now < t = omega (arith, whole, work, inside) in
    (less, tt)

pub statement-turns-requires : goal.statement-turns-requires
statement-turns-requires t c =
    let is : statement_of c.args.statement.now ≡ tree.for_turns c.in-For.register c.in-For.count (block_of c.in-For.body.items)
    = ap statement_of c.in-For.is ∙ statement_of-For c.in-For.register c.in-For.count c.in-For.body in
    let whole : statement_work (statement_of c.args.statement.now) ≡ t = c.decreases in
    let work : statement_work (statement_of c.args.statement.now) ≡ suc (turns_work c.in-For.count (work_in c.in-For.body.items)) = ap statement_work is in
    let inside : turns_work c.in-For.count (work_in c.as_slice-in-For.result.now) ≡ turns_work c.in-For.count (work_in c.in-For.body.items)
    = ap (λ (xs : List Statement). turns_work c.in-For.count (work_in xs)) c.as_slice-in-For.ensures.value in
    let less : turns_work c.in-For.count (work_in c.as_slice-in-For.result.now) < t = omega (arith, whole, work, inside) in
    (less, tt)

pub statement-returns-in-Assign : goal.statement-returns-in-Assign
statement-returns-in-Assign t c = λ s given. rw c.in-Assign.is (c.assigns.ensures s c.args.site)

pub statement-returns-in-Call : goal.statement-returns-in-Call
statement-returns-in-Call t c = λ s given. rw c.in-Call.is (c.calls.ensures s c.args.site given)

pub statement-returns-then-value-eq0 : goal.statement-returns-then-value-eq0
statement-returns-then-value-eq0 t c = λ s given.
    let is : statement_of c.args.statement.now ≡ tree.if_block (expression_of c.in-If.condition) (block_of c.in-If.body.items)
    = ap statement_of c.in-If.is ∙ statement_of-If c.in-If.condition c.in-If.body in
    let e = expression_of c.in-If.condition in
    let decides : Decides s c.args.site e c.in_ok-value-in-If.value c.args.before = λ standing records same. c.in_ok-value-in-If.ensures.steps s c.args.site standing records same in
    rw is (if_passed s c.args.site e (block_of c.in-If.body.items) c.in_ok-value-in-If.value c.args.before decides c.if-value-eq0.true)

pub statement-returns-else-value-eq0 : goal.statement-returns-else-value-eq0
statement-returns-else-value-eq0 t c = λ s given.
    let is : statement_of c.args.statement.now ≡ tree.if_block (expression_of c.in-If.condition) (block_of c.in-If.body.items)
    = ap statement_of c.in-If.is ∙ statement_of-If c.in-If.condition c.in-If.body in
    let e = expression_of c.in-If.condition in
    let decides : Decides s c.args.site e c.in_ok-value-in-If.value c.args.before = λ standing records same. c.in_ok-value-in-If.ensures.steps s c.args.site standing records same in
    let inside = rw c.as_slice.ensures.value at (c.block.ensures s given) in
    rw is (IfOk-weaker c.block.result _ _
    (λ after goes. if_goes s c.args.site e (block_of c.in-If.body.items) c.in_ok-value-in-If.value c.args.before after decides c.if-value-eq0.false
    (c.in_ok-value-in-If.ensures.pure c.args.site) goes) inside)

pub statement-returns-else-value-eq0-2 : goal.statement-returns-else-value-eq0-2
statement-returns-else-value-eq0-2 t c = λ s given.
    let is : statement_of c.args.statement.now ≡ tree.if_else (expression_of c.in-IfElse.condition) (block_of c.in-IfElse.body.items) (block_of c.in-IfElse.otherwise.items)
    = ap statement_of c.in-IfElse.is ∙ statement_of-IfElse c.in-IfElse.condition c.in-IfElse.body c.in-IfElse.otherwise in
    let e = expression_of c.in-IfElse.condition in
    let decides : Decides s c.args.site e c.in_ok-value-in-IfElse.value c.args.before = λ standing records same. c.in_ok-value-in-IfElse.ensures.steps s c.args.site standing records same in
    let inside = rw c.as_slice-in-IfElse.ensures.value at (c.block-in-IfElse.ensures s given) in
    rw is (IfOk-weaker c.block-in-IfElse.result _ _
    (λ after goes. else_goes s c.args.site e (block_of c.in-IfElse.body.items) (block_of c.in-IfElse.otherwise.items) c.in_ok-value-in-IfElse.value c.args.before after decides
    c.if-value-eq0-2.false (c.in_ok-value-in-IfElse.ensures.pure c.args.site) goes) inside)

pub statement-returns-then-value-eq0-2 : goal.statement-returns-then-value-eq0-2
statement-returns-then-value-eq0-2 t c = λ s given.
    let is : statement_of c.args.statement.now ≡ tree.if_else (expression_of c.in-IfElse.condition) (block_of c.in-IfElse.body.items) (block_of c.in-IfElse.otherwise.items)
    = ap statement_of c.in-IfElse.is ∙ statement_of-IfElse c.in-IfElse.condition c.in-IfElse.body c.in-IfElse.otherwise in
    let e = expression_of c.in-IfElse.condition in
    let decides : Decides s c.args.site e c.in_ok-value-in-IfElse.value c.args.before = λ standing records same. c.in_ok-value-in-IfElse.ensures.steps s c.args.site standing records same in
    let inside = rw c.as_slice-then-value-eq0-2-2.ensures.value at (c.block-then-value-eq0-2.ensures s given) in
    let passed = c.in_ok-sites_in-in-IfElse.ensures ∙ ap (λ (xs : List Statement). length (sites_of (block_of xs))) c.as_slice-then-value-eq0-2.ensures.value in
    let other : c.in_ok-other-in-IfElse.other ≡ c.args.site + length (sites_of (block_of c.in-IfElse.body.items))
    = c.in_ok-other-in-IfElse.ensures ∙ ap (λ (n : ℕ). c.args.site + n) passed in
    rw is (IfOk-weaker c.block-then-value-eq0-2.result _ _
    (λ after goes. else_other s c.args.site c.in_ok-other-in-IfElse.other e (block_of c.in-IfElse.body.items) (block_of c.in-IfElse.otherwise.items) c.in_ok-value-in-IfElse.value
    c.args.before after decides c.if-value-eq0-2.true (c.in_ok-value-in-IfElse.ensures.pure c.args.site) other goes) inside)

pub statement-returns-in-For : goal.statement-returns-in-For
statement-returns-in-For t c = λ s given.
    let is : statement_of c.args.statement.now ≡ tree.for_turns c.in-For.register c.in-For.count (block_of c.in-For.body.items)
    = ap statement_of c.in-For.is ∙ statement_of-For c.in-For.register c.in-For.count c.in-For.body in
    rw is (rw c.as_slice-in-For.ensures.value at (c.turns.ensures s given))

pub turns-returns-then-left-eq0 : goal.turns-returns-then-left-eq0
turns-returns-then-left-eq0 t c = λ s given.
    turns_over (StepsOfBlock s c.args.site (block_of c.args.body.now)) c.args.register c.args.turn c.args.left c.args.before c.assigning-at.result c.if-left-eq0.true
    c.assigning-at.ensures.comes c.assigning-at.ensures.left

pub turns-returns : goal.turns-returns
turns-returns t c = λ s given.
    IfOk-weaker c.turns.result _ _
    (λ after goes. turns_more (StepsOfBlock s c.args.site (block_of c.args.body.now)) c.args.register c.args.turn c.in_ok-next.next c.args.left c.args.before c.assigning-at.result
    c.in_ok-between.between after c.if-left-eq0.false c.in_ok-next.ensures c.assigning-at.ensures.comes c.assigning-at.ensures.left (c.in_ok-between.ensures s given) goes)
    (c.turns.ensures s given)

pub block-returns-in_default-scoped_assertion : goal.block-returns-in_default-scoped_assertion
block-returns-in_default-scoped_assertion t c = λ s given.
    let st = statement_of c.in-Some.first.now in
    let all : c.args.statements.now ≡ c.in-Some.first.now ∷ c.in-Some.rest.now = c.in-Some.ensures.cases.0 in
    let plain : scoped_assertion st ≡ None = c.in_default-scoped_assertion.ensures in
    let next : c.in_ok-next.next ≡ c.args.site + length (accesses_of st) = c.in_ok-next.ensures ∙ ap (λ (n : ℕ). c.args.site + n) c.in_ok-accesses_in.ensures in
    rw all (IfOk-weaker c.block.result _ _
    (λ after goes. block_first s c.args.site c.in_ok-next.next st (block_of c.in-Some.rest.now) c.args.before c.in_ok-between.between after
    plain next (c.in_ok-between.ensures s given) goes)
    (c.block.ensures s given))
