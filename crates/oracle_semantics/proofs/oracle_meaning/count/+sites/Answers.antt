-- A statement with a block has its own access besides those of the block.
use Rattle.std.proofs.Common.{◌≡◌, ◌+◌, ◌∙◌, ℕ, Bool, IfOk, List, ap, if◌then◌else◌, length, subst, sym}
use Rattle.litmus_syntax.proofs.TreeLemmas.{statement_of-If, statement_of-IfElse, statement_of-For}
use Rattle.litmus_syntax.specs.Sites.{accesses_of, has_access, sites_of}
use Rattle.litmus_syntax.specs.Tree as tree
use Rattle.litmus_syntax.specs.Views.{block_of, expression_of, statement_of}
use Rattle.litmus_syntax.specs.declared.statement.Statement.{Statement}
use Rattle.oracle_semantics.proofs.oracle_meaning.CountLemmas.{else_counts, if_counts, two_sums}
use Rattle.oracle_semantics.proofs.oracle_meaning.count.+sites.Goals as goal

abbrev in_block : List Statement → ℕ
in_block body = length (sites_of (block_of body))

pub accesses_in-returns-in_ok-sites_in-in-If : goal.accesses_in-returns-in_ok-sites_in-in-If
accesses_in-returns-in_ok-sites_in-in-If t c =
    let is : statement_of c.args.statement.now ≡ tree.if_block (expression_of c.in-If.condition) (block_of c.in-If.body.items)
    = ap statement_of c.in-If.is ∙ statement_of-If c.in-If.condition c.in-If.body in
    let own = c.one_if-itself.ensures ∙ ap (λ (has : Bool). if has then 1 else 0) (c.has_access.ensures ∙ ap has_access is) in
    let inside = c.in_ok-sites_in-in-If.ensures ∙ ap in_block c.as_slice.ensures.value in
    let all : c.one_if-itself.result + c.in_ok-sites_in-in-If.field-0 ≡ length (accesses_of (statement_of c.args.statement.now))
    = two_sums own inside ∙ sym (if_counts (expression_of c.in-If.condition) (block_of c.in-If.body.items)) ∙ sym (ap (λ (st : tree.Statement). length (accesses_of st)) is) in
    subst (λ (n : ℕ). IfOk c.add.result (λ count. count ≡ n)) all c.add.ensures

pub accesses_in-returns-in-For : goal.accesses_in-returns-in-For
accesses_in-returns-in-For t c =
    let is : statement_of c.args.statement.now ≡ tree.for_turns c.in-For.register c.in-For.turns (block_of c.in-For.body.items)
    = ap statement_of c.in-For.is ∙ statement_of-For c.in-For.register c.in-For.turns c.in-For.body in
    rw (is) (rw c.as_slice-in-For.ensures.value at c.sites_in-in-For.ensures)

pub accesses_in-returns-in_ok-both-in-IfElse : goal.accesses_in-returns-in_ok-both-in-IfElse
accesses_in-returns-in_ok-both-in-IfElse t c =
    let is : statement_of c.args.statement.now ≡ tree.if_else (expression_of c.in-IfElse.condition) (block_of c.in-IfElse.body.items) (block_of c.in-IfElse.otherwise.items)
    = ap statement_of c.in-IfElse.is ∙ statement_of-IfElse c.in-IfElse.condition c.in-IfElse.body c.in-IfElse.otherwise in
    let own = c.one_if-itself.ensures ∙ ap (λ (has : Bool). if has then 1 else 0) (c.has_access.ensures ∙ ap has_access is) in
    let body = c.in_ok-sites_in-in-IfElse.ensures ∙ ap in_block c.as_slice-in-IfElse.ensures.value in
    let otherwise = c.in_ok-sites_in-in-IfElse-2.ensures ∙ ap in_block c.as_slice-in-IfElse-2.ensures.value in
    let both = c.in_ok-both-in-IfElse.ensures ∙ two_sums body otherwise in
    let all : c.one_if-itself.result + c.in_ok-both-in-IfElse.both ≡ length (accesses_of (statement_of c.args.statement.now))
    = two_sums own both ∙ sym (else_counts (expression_of c.in-IfElse.condition) (block_of c.in-IfElse.body.items) (block_of c.in-IfElse.otherwise.items))
    ∙ sym (ap (λ (st : tree.Statement). length (accesses_of st)) is) in
    subst (λ (n : ℕ). IfOk c.add-in-IfElse-2.result (λ count. count ≡ n)) all c.add-in-IfElse-2.ensures
