-- A statement with blocks begins the accesses of these beside its own, and a loop those of its block as often.
use Rattle.std.proofs.Common.{◌≡◌, ◌≤◌, ◌∙◌, ◌+◌, ◌*◌, ◌-◌, ◌^◌, List, ℕ, ap, arith, min, subst, sym}
use Rattle.litmus_semantics.specs.TextSites.{AllLoopsFit, LoopsFit}
use Rattle.litmus_syntax.proofs.TreeLemmas.{statement_of-For, statement_of-If, statement_of-IfElse}
use Rattle.litmus_syntax.specs.Limits.{block_repeats, own_repeats, statement_repeats}
use Rattle.litmus_syntax.specs.Tree as tree
use Rattle.litmus_syntax.specs.Views.{block_of, expression_of, statement_of}
use Rattle.litmus_syntax.specs.declared.statement.Statement.{Statement}
use Rattle.prepared_program.proofs.program_sites.accesses.+begun.Goals as goal

-- what is counted of a block that is passed as its statements
counted : (times result : ℕ) (passed items : List Statement) → passed ≡ items
    → (AllLoopsFit times (block_of passed) → block_repeats times (block_of passed) ≤ 1024 → result ≡ block_repeats times (block_of passed))
    → AllLoopsFit times (block_of items) → block_repeats times (block_of items) ≤ 1024 → result ≡ block_repeats times (block_of items)
counted times result passed items same ensures =
    subst (λ (xs : List Statement). AllLoopsFit times (block_of xs) → block_repeats times (block_of xs) ≤ 1024 → result ≡ block_repeats times (block_of xs))
    same ensures

pub in_statement-returns-in-If : goal.in_statement-returns-in-If
in_statement-returns-in-If t c = λ fit few.
    let whole = tree.if_block (expression_of c.in-If.condition) (block_of c.in-If.body.items) in
    let is : statement_of c.args.statement.now ≡ whole = ap statement_of c.in-If.is ∙ statement_of-If c.in-If.condition c.in-If.body in
    let fits = subst (λ (st : tree.Statement). LoopsFit c.args.times st) is fit in
    let small : own_repeats c.args.times whole + block_repeats c.args.times (block_of c.in-If.body.items) ≤ 1024 =
    subst (λ (st : tree.Statement). statement_repeats c.args.times st ≤ 1024) is few in
    let own : c.in_itself-own.result ≡ own_repeats c.args.times whole = c.in_itself-own.ensures ∙ ap (own_repeats c.args.times) is in
    let body = counted c.args.times c.in_block.result c.as_slice.result.now c.in-If.body.items c.as_slice.ensures.value c.in_block.ensures fits
    (omega (arith, small)) in
    let all : c.saturating_add.result ≡ own_repeats c.args.times whole + block_repeats c.args.times (block_of c.in-If.body.items) =
    omega (arith, c.saturating_add.ensures, own, body, small) in
    all ∙ sym (ap (statement_repeats c.args.times) is)

pub in_statement-returns-in-IfElse : goal.in_statement-returns-in-IfElse
in_statement-returns-in-IfElse t c = λ fit few.
    let first = block_of c.in-IfElse.body.items in
    let other = block_of c.in-IfElse.otherwise.items in
    let whole = tree.if_else (expression_of c.in-IfElse.condition) first other in
    let is : statement_of c.args.statement.now ≡ whole =
    ap statement_of c.in-IfElse.is ∙ statement_of-IfElse c.in-IfElse.condition c.in-IfElse.body c.in-IfElse.otherwise in
    let fits = subst (λ (st : tree.Statement). LoopsFit c.args.times st) is fit in
    let small : own_repeats c.args.times whole + block_repeats c.args.times first + block_repeats c.args.times other ≤ 1024 =
    subst (λ (st : tree.Statement). statement_repeats c.args.times st ≤ 1024) is few in
    let own : c.in_itself-own.result ≡ own_repeats c.args.times whole = c.in_itself-own.ensures ∙ ap (own_repeats c.args.times) is in
    let body = counted c.args.times c.in_block-in-IfElse.result c.as_slice-in-IfElse.result.now c.in-IfElse.body.items c.as_slice-in-IfElse.ensures.value
    c.in_block-in-IfElse.ensures fits.0 (omega (arith, small)) in
    let otherwise = counted c.args.times c.in_block-in-IfElse-2.result c.as_slice-in-IfElse-2.result.now c.in-IfElse.otherwise.items
    c.as_slice-in-IfElse-2.ensures.value c.in_block-in-IfElse-2.ensures fits.1 (omega (arith, small)) in
    let both : c.saturating_add-first.result ≡ own_repeats c.args.times whole + block_repeats c.args.times first =
    omega (arith, c.saturating_add-first.ensures, own, body, small) in
    let all : c.saturating_add-in-IfElse.result
    ≡ own_repeats c.args.times whole + block_repeats c.args.times first + block_repeats c.args.times other =
    omega (arith, c.saturating_add-in-IfElse.ensures, both, otherwise, small) in
    all ∙ sym (ap (statement_repeats c.args.times) is)

pub in_statement-returns-in-For : goal.in_statement-returns-in-For
in_statement-returns-in-For t c = λ fit few.
    let whole = tree.for_turns c.in-For.register c.in-For.turns (block_of c.in-For.body.items) in
    let is : statement_of c.args.statement.now ≡ whole = ap statement_of c.in-For.is ∙ statement_of-For c.in-For.register c.in-For.turns c.in-For.body in
    let fits = subst (λ (st : tree.Statement). LoopsFit c.args.times st) is fit in
    let small : block_repeats (c.args.times * c.in-For.turns) (block_of c.in-For.body.items) ≤ 1024 =
    subst (λ (st : tree.Statement). statement_repeats c.args.times st ≤ 1024) is few in
    let within : c.args.times * c.in-For.turns ≤ 256 = fits.0 in
    let all : min (c.args.times * c.in-For.turns) (2 ^ 64 - 1) ≡ c.args.times * c.in-For.turns = omega arith in
    let turns : c.saturating_mul.result ≡ c.args.times * c.in-For.turns = c.saturating_mul.ensures ∙ all in
    let body = counted c.saturating_mul.result c.in_block-in-For.result c.as_slice-in-For.result.now c.in-For.body.items c.as_slice-in-For.ensures.value
    c.in_block-in-For.ensures in
    subst (λ (n : ℕ). AllLoopsFit n (block_of c.in-For.body.items) → block_repeats n (block_of c.in-For.body.items) ≤ 1024
    → c.in_block-in-For.result ≡ block_repeats n (block_of c.in-For.body.items)) turns body fits.1 small
    ∙ sym (ap (statement_repeats c.args.times) is)
