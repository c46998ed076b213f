-- A statement has the site of its condition before those of its blocks, and loops round them.
use Rattle.std.proofs.Common.{◌≡◌, ◌≤◌, ◌∙◌, ◌*◌, ◌-◌, ◌^◌, List, ℕ, append_assoc, ap, arith, min, subst, sym}
use Rattle.std.proofs.lemmas.List.{map-append}
use Rattle.litmus_syntax.proofs.TreeLemmas.{statement_of-If, statement_of-IfElse, statement_of-For}
use Rattle.litmus_syntax.specs.Tree as tree
use Rattle.litmus_syntax.specs.Views.{block_of, expression_of, statement_of}
use Rattle.litmus_syntax.specs.declared.statement.Statement.{Statement}
use Rattle.litmus_semantics.proofs.RepeatedLemmas.{repeated_twice}
use Rattle.litmus_semantics.specs.TextSites.{AllLoopsFit, LoopsFit}
use Rattle.litmus_semantics.proofs.site.+sites.Goals as goal

pub add_statement-returns-in_ok-add_block-in-If : goal.add_statement-returns-in_ok-add_block-in-If
add_statement-returns-in_ok-add_block-in-If t c = λ fit.
    let is : statement_of c.args.statement.now ≡ tree.if_block (expression_of c.in-If.condition) (block_of c.in-If.body.items)
    = ap statement_of c.in-If.is ∙ statement_of-If c.in-If.condition c.in-If.body in
    let there = subst (λ (st : tree.Statement). LoopsFit c.args.times st) is fit in
    let body = subst (λ (b : List Statement). AllLoopsFit c.args.times (block_of b)) (sym c.as_slice.ensures.value) there in
    rw (c.in_ok-add_block-in-If.ensures body, c.in_ok-add_expression-in-If.ensures, is, c.as_slice.ensures.value)
    (simp (map-append, append_assoc))

pub add_statement-returns-in_ok-add_block-in-IfElse-2 :
    goal.add_statement-returns-in_ok-add_block-in-IfElse-2
add_statement-returns-in_ok-add_block-in-IfElse-2 t c = λ fit.
    let is : statement_of c.args.statement.now ≡ tree.if_else (expression_of c.in-IfElse.condition) (block_of c.in-IfElse.body.items) (block_of c.in-IfElse.otherwise.items)
    = ap statement_of c.in-IfElse.is ∙ statement_of-IfElse c.in-IfElse.condition c.in-IfElse.body c.in-IfElse.otherwise in
    let there = subst (λ (st : tree.Statement). LoopsFit c.args.times st) is fit in
    let body = subst (λ (b : List Statement). AllLoopsFit c.args.times (block_of b)) (sym c.as_slice-in-IfElse.ensures.value) there.0 in
    let otherwise = subst (λ (b : List Statement). AllLoopsFit c.args.times (block_of b)) (sym c.as_slice-in-IfElse-2.ensures.value) there.1 in
    rw (
      c.in_ok-add_block-in-IfElse-2.ensures otherwise,
      c.in_ok-add_block-in-IfElse.ensures body,
      c.in_ok-add_expression-in-IfElse.ensures,
      is,
      c.as_slice-in-IfElse.ensures.value,
      c.as_slice-in-IfElse-2.ensures.value,
    )
    (simp (map-append, append_assoc))

pub add_statement-returns-in_ok-add_block-in-For :
    goal.add_statement-returns-in_ok-add_block-in-For
add_statement-returns-in_ok-add_block-in-For t c = λ fit.
    let is : statement_of c.args.statement.now ≡ tree.for_turns c.in-For.register c.in-For.turns (block_of c.in-For.body.items)
    = ap statement_of c.in-For.is ∙ statement_of-For c.in-For.register c.in-For.turns c.in-For.body in
    let there = subst (λ (st : tree.Statement). LoopsFit c.args.times st) is fit in
    let within : c.args.times * c.in-For.turns ≤ 256 = there.0 in
    let all : min (c.args.times * c.in-For.turns) (2 ^ 64 - 1) ≡ c.args.times * c.in-For.turns = omega arith in
    let turns : c.saturating_mul.result ≡ c.args.times * c.in-For.turns = c.saturating_mul.ensures ∙ all in
    let body = subst (λ (n : ℕ). AllLoopsFit n (block_of c.as_slice-in-For.result.now)) (sym turns)
    (subst (λ (b : List Statement). AllLoopsFit (c.args.times * c.in-For.turns) (block_of b)) (sym c.as_slice-in-For.ensures.value) there.1) in
    rw (c.in_ok-add_block-in-For.ensures body, is, c.as_slice-in-For.ensures.value, turns)
    (simp repeated_twice)
