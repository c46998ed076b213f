-- A statement with blocks is kept where its blocks are.
use Rattle.std.proofs.Common.{◌≡◌, ◌∙◌, ◌+◌, ap, drop, subst, sym}
use Rattle.litmus_syntax.specs.Kept.{BlockIsKept, StatementIsKept}
use Rattle.litmus_syntax.specs.Tree.{Block, Statement}
use Rattle.litmus_syntax.specs.Tree as tree
use Rattle.litmus_syntax.specs.Views.{block_of, expression_of, statement_of}
use Rattle.litmus_syntax.proofs.KeptLemmas.{first_kept, for_kept, if_else_kept, if_kept, next_block, none_kept, past_block}
use Rattle.litmus_syntax.proofs.TreeLemmas.{statement_of-For, statement_of-If, statement_of-IfElse}
use Rattle.litmus_syntax.proofs.limits.Tally.+kept.Goals as goal

pub add_block-loop-statement-preserved : goal.add_block-loop-statement-preserved
add_block-loop-statement-preserved t c =
    λ end later. c.loop-statement.invariant end
    (subst (λ (b : Block). BlockIsKept c.args.scope.now c.loop-statement.place c.loop-statement.self end b)
    (sym (next_block c.loop-statement.statement-index c.args.block.now c.statement-item.result c.loop-statement-test.true c.statement-item.is))
    (first_kept c.args.scope.now c.loop-statement.place c.in-Some.behind c.loop-statement.self c.add_statement.new.self end
    (statement_of c.statement-item.result) (block_of (drop (c.loop-statement.statement-index + 1) c.args.block.now))
    (c.if-not-add_statement.ensures (search)) c.in-Some.ensures.turns c.in-Some.ensures.scopes later))

pub add_block-returns : goal.add_block-returns
add_block-returns t c =
    λ is. c.loop-statement.invariant c.loop-statement.self
    (subst (λ (b : Block). BlockIsKept c.args.scope.now c.loop-statement.place c.loop-statement.self c.loop-statement.self b)
    (sym (past_block c.args.block.now c.loop-statement.statement-index c.loop-statement-test.false))
    (none_kept c.args.scope.now c.loop-statement.place c.loop-statement.self))

pub add_statement-returns-else-not-add_condition : goal.add_statement-returns-else-not-add_condition
add_statement-returns-else-not-add_condition t c =
    λ is. let whole : statement_of c.args.statement.now ≡ tree.if_block (expression_of c.in-If.condition) (block_of c.in-If.body.items)
    = ap statement_of c.in-If.is ∙ statement_of-If c.in-If.condition c.in-If.body in
    let body = subst (λ xs. BlockIsKept c.args.scope.now c.args.place c.add_condition.new.self c.add_block.new.self (block_of xs)) c.as_slice.ensures.value (c.add_block.ensures is) in
    subst (λ (s : Statement). StatementIsKept c.args.scope.now c.args.place c.args.self.now c.add_block.new.self s) (sym whole)
    (if_kept c.args.scope.now c.args.place c.args.self.now c.add_condition.new.self c.add_block.new.self _ _
    (c.if-not-add_condition.ensures.adds (search)) (c.if-not-add_condition.ensures.typed (search)) body)

pub add_statement-returns-else-not-add_block : goal.add_statement-returns-else-not-add_block
add_statement-returns-else-not-add_block t c =
    λ is. let whole : statement_of c.args.statement.now ≡ tree.if_else (expression_of c.in-IfElse.condition) (block_of c.in-IfElse.body.items) (block_of c.in-IfElse.otherwise.items)
    = ap statement_of c.in-IfElse.is ∙ statement_of-IfElse c.in-IfElse.condition c.in-IfElse.body c.in-IfElse.otherwise in
    let body = subst (λ xs. BlockIsKept c.args.scope.now c.args.place c.add_condition-in-IfElse.new.self c.add_block-in-IfElse.new.self (block_of xs))
    c.as_slice-in-IfElse.ensures.value (c.if-not-add_block.ensures (search)) in
    let otherwise = subst (λ xs. BlockIsKept c.args.scope.now c.args.place c.add_block-in-IfElse.new.self c.add_block-in-IfElse-2.new.self (block_of xs))
    c.as_slice-in-IfElse-2.ensures.value (c.add_block-in-IfElse-2.ensures is) in
    subst (λ (s : Statement). StatementIsKept c.args.scope.now c.args.place c.args.self.now c.add_block-in-IfElse-2.new.self s) (sym whole)
    (if_else_kept c.args.scope.now c.args.place c.args.self.now c.add_condition-in-IfElse.new.self c.add_block-in-IfElse.new.self c.add_block-in-IfElse-2.new.self _ _ _
    (c.if-not-add_condition-2.ensures.adds (search)) (c.if-not-add_condition-2.ensures.typed (search)) body otherwise)

pub add_statement-returns-else-not-add : goal.add_statement-returns-else-not-add
add_statement-returns-else-not-add t c =
    λ is. let whole : statement_of c.args.statement.now ≡ tree.for_turns c.in-For.register c.in-For.turns (block_of c.in-For.body.items)
    = ap statement_of c.in-For.is ∙ statement_of-For c.in-For.register c.in-For.turns c.in-For.body in
    let body = subst (λ xs. BlockIsKept c.args.scope.now c.in-Some.inside c.add.new.self c.add_block-in-For.new.self (block_of xs)) c.as_slice-in-For.ensures.value (c.add_block-in-For.ensures is) in
    subst (λ (s : Statement). StatementIsKept c.args.scope.now c.args.place c.args.self.now c.add_block-in-For.new.self s) (sym whole)
    (for_kept c.args.scope.now c.args.place c.in-Some.inside c.args.self.now c.add.new.self c.add_block-in-For.new.self c.in-For.register c.in-For.turns _
    c.in-Some.ensures.few c.in-Some.ensures.turns c.in-Some.ensures.scopes
    (c.if-not-add.ensures (search)) c.if-register-scope.false body)
