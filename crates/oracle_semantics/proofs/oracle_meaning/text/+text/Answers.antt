-- Each part of a text means what its form says, and each part of a part is less.
use Rattle.std.proofs.Common.{◌≡◌, ◌<◌, ◌+◌, ◌∷◌, [], ◌∙◌, ℕ, List, None, Some, ap, arith, inl, inr, length, refl, subst, suc, sym}
use Rattle.std.proofs.lemmas.Result.{IfOk-weaker}
use Rattle.access_types.specs.Access.{Access}
use Rattle.access_types.specs.declared.history.Happening.TheVariants.{Begin, End}
use Rattle.litmus_semantics.specs.Calls.{Scoped, scoped_access, scoped_assertion}
use Rattle.litmus_semantics.specs.Meaning.{MeansBlock}
use Rattle.litmus_semantics.specs.Task.{Progress, doing}
use Rattle.litmus_syntax.proofs.TreeLemmas.{statement_of-If, statement_of-IfElse, statement_of-For}
use Rattle.litmus_syntax.specs.Sites.{accesses_of}
use Rattle.litmus_syntax.specs.Tree as tree
use Rattle.litmus_syntax.specs.Views.{block_of, expression_of, statement_of}
use Rattle.litmus_syntax.specs.declared.statement.Statement.{Statement}
use Rattle.oracle_semantics.proofs.oracle_meaning.TextLemmas.{plain_first, scoped_first, turns_more}
use Rattle.oracle_semantics.proofs.oracle_meaning.Work.{block_work, statement_work, turns_work}
use Rattle.oracle_semantics.specs.oracle_meaning.Walks.{stands}
use Rattle.oracle_semantics.proofs.oracle_meaning.text.+text.Goals as goal

abbrev work_in : List Statement → ℕ
work_in statements = block_work (block_of statements)

pub statement-if_holds-requires : goal.statement-if_holds-requires
statement-if_holds-requires t c =
    let is : statement_of c.args.statement.now ≡ tree.if_block (expression_of c.in-If.condition) (block_of c.in-If.body.items)
    = ap statement_of c.in-If.is ∙ statement_of-If c.in-If.condition c.in-If.body in
    let whole : statement_work (statement_of c.args.statement.now) ≡ t = c.decreases in
    let work : statement_work (statement_of c.args.statement.now) ≡ suc (suc (work_in c.in-If.body.items)) = ap statement_work is in
    let inside : work_in c.as_slice.result.now ≡ work_in c.in-If.body.items = ap work_in c.as_slice.ensures.value in
    let less : suc (work_in c.as_slice.result.now) < t = omega (arith, whole, work, inside) in
    (less, tt)

pub statement-if_else-requires : goal.statement-if_else-requires
statement-if_else-requires t c =
    let is : statement_of c.args.statement.now ≡ tree.if_else (expression_of c.in-IfElse.condition) (block_of c.in-IfElse.body.items) (block_of c.in-IfElse.otherwise.items)
    = ap statement_of c.in-IfElse.is ∙ statement_of-IfElse c.in-IfElse.condition c.in-IfElse.body c.in-IfElse.otherwise in
    let whole : statement_work (statement_of c.args.statement.now) ≡ t = c.decreases in
    let work : statement_work (statement_of c.args.statement.now) ≡ suc (suc (work_in c.in-IfElse.body.items + work_in c.in-IfElse.otherwise.items)) = ap statement_work is in
    let one : work_in c.as_slice-in-IfElse.result.now ≡ work_in c.in-IfElse.body.items = ap work_in c.as_slice-in-IfElse.ensures.value in
    let other : work_in c.as_slice-in-IfElse-2.result.now ≡ work_in c.in-IfElse.otherwise.items = ap work_in c.as_slice-in-IfElse-2.ensures.value in
    let less : suc (work_in c.as_slice-in-IfElse.result.now + work_in c.as_slice-in-IfElse-2.result.now) < t = omega (arith, whole, work, one, other) in
    (less, tt)

pub statement-turns-requires : goal.statement-turns-requires
statement-turns-requires t c =
    let is : statement_of c.args.statement.now ≡ tree.for_turns c.in-For.register c.in-For.count (block_of c.in-For.body.items)
    = ap statement_of c.in-For.is ∙ statement_of-For c.in-For.register c.in-For.count c.in-For.body in
    let whole : statement_work (statement_of c.args.statement.now) ≡ t = c.decreases in
    let work : statement_work (statement_of c.args.statement.now) ≡ suc (turns_work c.in-For.count (work_in c.in-For.body.items)) = ap statement_work is in
    let inside : turns_work c.in-For.count (work_in c.as_slice-in-For.result.now) ≡ turns_work c.in-For.count (work_in c.in-For.body.items)
    = ap (λ (xs : List Statement). turns_work c.in-For.count (work_in xs)) c.as_slice-in-For.ensures.value in
    let less : turns_work c.in-For.count (work_in c.as_slice-in-For.result.now) < t = omega (arith, whole, work, inside) in
    (less, tt)

pub statement-returns-in-Load-clause-means : goal.statement-returns-in-Load-clause-means
statement-returns-in-Load-clause-means t c = λ s given. rw c.in-Load.is (c.loads.ensures.means s given)

pub statement-returns-in-Assign-clause-means : goal.statement-returns-in-Assign-clause-means
statement-returns-in-Assign-clause-means t c = λ s given. rw c.in-Assign.is (c.assigns_in.ensures.means s given)

pub statement-returns-in-Call-clause-means : goal.statement-returns-in-Call-clause-means
statement-returns-in-Call-clause-means t c = λ s given. rw c.in-Call.is (c.calls.ensures.means s given)

pub statement-returns-in-If-clause-means : goal.statement-returns-in-If-clause-means
statement-returns-in-If-clause-means t c = λ s given.
    let is : statement_of c.args.statement.now ≡ tree.if_block (expression_of c.in-If.condition) (block_of c.in-If.body.items)
    = ap statement_of c.in-If.is ∙ statement_of-If c.in-If.condition c.in-If.body in
    rw is (rw c.as_slice.ensures.value at (c.if_holds.ensures.means s given))

pub statement-returns-in-IfElse-clause-means : goal.statement-returns-in-IfElse-clause-means
statement-returns-in-IfElse-clause-means t c = λ s given.
    let is : statement_of c.args.statement.now ≡ tree.if_else (expression_of c.in-IfElse.condition) (block_of c.in-IfElse.body.items) (block_of c.in-IfElse.otherwise.items)
    = ap statement_of c.in-IfElse.is ∙ statement_of-IfElse c.in-IfElse.condition c.in-IfElse.body c.in-IfElse.otherwise in
    rw is (rw (c.as_slice-in-IfElse.ensures.value, c.as_slice-in-IfElse-2.ensures.value) at (c.if_else.ensures.means s given))

pub if_holds-returns-then-value-eq0-clause-means : goal.if_holds-returns-then-value-eq0-clause-means
if_holds-returns-then-value-eq0-clause-means t c = λ s given.
    (c.in_ok-between.value, stands c.in_ok-between.between, c.in_ok-between.ensures.means s given, inr (c.if-value-eq0.true, refl))

pub if_holds-returns-clause-means : goal.if_holds-returns-clause-means
if_holds-returns-clause-means t c = λ s given.
    let inside = rw c.in_ok-after_condition.ensures at (c.block.ensures.means s given) in
    IfOk-weaker c.block.result _ _
    (λ after means. (c.in_ok-between.value, stands c.in_ok-between.between, c.in_ok-between.ensures.means s given, inl (c.if-value-eq0.false, means)))
    inside

pub if_else-returns-then-value-eq0-clause-means : goal.if_else-returns-then-value-eq0-clause-means
if_else-returns-then-value-eq0-clause-means t c = λ s given.
    let inside = rw c.in_ok-after_body.ensures at (c.block.ensures.means s given) in
    IfOk-weaker c.block.result _ _
    (λ after means. (c.in_ok-between.value, stands c.in_ok-between.between, c.in_ok-between.ensures.means s given, inr (c.if-value-eq0.true, means)))
    inside

pub if_else-returns-clause-means : goal.if_else-returns-clause-means
if_else-returns-clause-means t c = λ s given.
    let inside = rw c.in_ok-after_condition.ensures at (c.block-2.ensures.means s given) in
    IfOk-weaker c.block-2.result _ _
    (λ after means. (c.in_ok-between.value, stands c.in_ok-between.between, c.in_ok-between.ensures.means s given, inl (c.if-value-eq0.false, means)))
    inside

pub statement-returns-in-For-clause-means : goal.statement-returns-in-For-clause-means
statement-returns-in-For-clause-means t c = λ s given.
    let is : statement_of c.args.statement.now ≡ tree.for_turns c.in-For.register c.in-For.count (block_of c.in-For.body.items)
    = ap statement_of c.in-For.is ∙ statement_of-For c.in-For.register c.in-For.count c.in-For.body in
    rw is (rw c.as_slice-in-For.ensures.value at (c.turns.ensures.means s given))

pub turns-returns-clause-means : goal.turns-returns-clause-means
turns-returns-clause-means t c = λ s given.
    let Body = λ (start end : Progress). MeansBlock s c.args.site (block_of c.args.body.now) start end in
    let body = subst (λ (p : Progress). MeansBlock s c.args.site (block_of c.args.body.now) p (stands c.in_ok-between.between)) c.assigning-at.ensures.comes (c.in_ok-between.ensures.means s given) in
    IfOk-weaker c.turns.result _ _
    (λ after means. turns_more Body c.args.register c.args.turn c.in_ok-next.next c.args.left (stands c.args.before) (stands c.in_ok-between.between) (stands after)
    c.if-left-eq0.false c.in_ok-next.ensures body means)
    (c.turns.ensures.means s given)

pub block-returns-in_default-scoped_assertion-clause-means :
    goal.block-returns-in_default-scoped_assertion-clause-means
block-returns-in_default-scoped_assertion-clause-means t c = λ s given.
    let st = statement_of c.in-Some.first.now in
    let all : c.args.statements.now ≡ c.in-Some.first.now ∷ c.in-Some.rest.now = c.in-Some.ensures.cases.0 in
    let plain : scoped_assertion st ≡ None = c.in_default-scoped_assertion.ensures in
    let next : c.in_ok-next.next ≡ c.args.site + length (accesses_of st) = c.in_ok-next.ensures ∙ ap (λ (n : ℕ). c.args.site + n) c.in_ok-accesses_in.ensures in
    rw all (IfOk-weaker c.block.result _ _
    (λ after means. plain_first s c.args.site c.in_ok-next.next st (block_of c.in-Some.rest.now) (stands c.args.before) (stands c.in_ok-between.between) (stands after)
    plain next (c.in_ok-between.ensures.means s given) means)
    (c.block.ensures.means s given))

pub block-returns-clause-means : goal.block-returns-clause-means
block-returns-clause-means t c = λ s given.
    let st = statement_of c.in-Some.first.now in
    let scoped : Scoped = record { kind = c.in-Some-scoped_assertion.kind; variable = c.in-Some-scoped_assertion.variable } in
    let all : c.args.statements.now ≡ c.in-Some.first.now ∷ c.in-Some.rest.now = c.in-Some.ensures.cases.0 in
    let is : scoped_assertion st ≡ Some scoped = c.in-Some-scoped_assertion.ensures in
    let next : c.in_ok-next.next ≡ c.args.site + length (accesses_of st) = c.in_ok-next.ensures ∙ ap (λ (n : ℕ). c.args.site + n) c.in_ok-accesses_in.ensures in
    let access : c.in_ok-access.access ≡ scoped_access s c.args.site (stands c.args.before) scoped
    = rw (c.bytes_in.ensures s given) at (c.in_ok-access.ensures s given) in
    let begun : stands c.in_ok-begun.begun ≡ doing (stands c.args.before) (Begin (scoped_access s c.args.site (stands c.args.before) scoped) ∷ [])
    = c.in_ok-begun.ensures.comes ∙ ap (λ (a : Access). doing (stands c.args.before) (Begin a ∷ [])) access in
    let rest = subst (λ (p : Progress). MeansBlock s c.in_ok-next.next (block_of c.in-Some.rest.now) p (stands c.in_ok-between-2.between)) begun (c.in_ok-between-2.ensures.means s given) in
    let means = scoped_first s c.args.site c.in_ok-next.next st (block_of c.in-Some.rest.now) scoped (stands c.args.before) (stands c.in_ok-between-2.between) is next rest in
    rw all (IfOk-weaker c.doing-2.result _ _
    (λ after comes. subst (λ (p : Progress). MeansBlock s c.args.site (tree.first st (block_of c.in-Some.rest.now)) (stands c.args.before) p)
    (sym (comes ∙ ap (λ (a : Access). doing (stands c.in_ok-between-2.between) (End a ∷ [])) access)) means)
    c.doing-2.ensures.comes)
