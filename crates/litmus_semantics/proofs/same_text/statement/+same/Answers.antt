-- Statements with blocks are the same exactly where their conditions and blocks are.
use Rattle.std.proofs.Common.{◌≡◌, ◌↔◌, ◌∙◌, sym, IsTrue, Bool, Global, ℕ, List, [], ◌∷◌, Vec, ap, false, length, refl, rules, suc, true}
use Rattle.litmus_syntax.proofs.TreeLemmas.{statement_of-For, statement_of-If, statement_of-IfElse}
use Rattle.litmus_syntax.specs.Tree as tree
use Rattle.litmus_syntax.specs.Views.{block_of, expression_of, statement_of}
use Rattle.litmus_syntax.specs.declared.expression.Expression.{Expression}
use Rattle.litmus_syntax.specs.declared.statement.Statement.{Statement}
use Rattle.litmus_syntax.specs.declared.statement.Statement.TheVariants as statements
use Rattle.litmus_syntax.specs.declared.statement.Statement.TheVariants.{For, If, IfElse, outs-For', outs-If', outs-IfElse', rolls-For, rolls-If, rolls-IfElse}
use Rattle.litmus_syntax.specs.declared.statement.Statement.TheViews.{roll-Statement, roll-out-Statement}
use Rattle.litmus_semantics.proofs.same_text.statement.+same.Goals as goal
use Rattle.litmus_semantics.proofs.same_text.statement.+same.Goals.{is_if_else-then-is_same_expression, is_if_else-else-is_same_expression}
use Rattle.litmus_semantics.proofs.same_text.statement.+same.Goals.{is_loop-then-counter-register, is_loop-else-counter-register}

-- blocks that are the same have as many statements
as_many : (one other : List Statement) → block_of one ≡ block_of other → length one ≡ length other
as_many [] [] same = refl
as_many [] (second ∷ others) same = cc
as_many (first ∷ rest) [] same = cc
as_many (first ∷ rest) (second ∷ others) same = ap suc (as_many rest others (cc))

if_is : (P : Type 0) (one : Statement) (condition asked : Expression) (inner : Vec Statement Global) (these body : List Statement)
    → one ≡ If asked inner → these ≡ inner.items → expression_of asked ≡ expression_of condition → (P ↔ (block_of these ≡ block_of body))
    → P ↔ (statement_of one ≡ tree.if_block (expression_of condition) (block_of body))
if_is P one condition asked inner these body one_is these_are same blocks =
    let whole = ap statement_of one_is ∙ statement_of-If asked inner in
    (λ yes. let bodies = blocks.0 yes in cc, λ is. blocks.1 (cc))

pub is_if-returns-then-is_same_expression : goal.is_if-returns-then-is_same_expression
is_if-returns-then-is_same_expression t c =
    if_is _ _ _ _ _ _ _ c.in-If.is c.as_slice.ensures.value (c.if-is_same_expression.ensures.0 (search)) c.is_same_block.ensures

-- what a statement with two blocks is of
record IsIfElseOf (one : Statement) (condition : tree.Expression) (body otherwise : tree.Block) (asked : Expression) (inner last : List Statement) : Type 0 where
  conditions : expression_of asked ≡ condition
  bodies : block_of inner ≡ body
  others : block_of last ≡ otherwise

if_else_is : (one : Statement) (condition : tree.Expression) (body otherwise : tree.Block) (asked : Expression) (inner last : Vec Statement Global)
    → one ≡ IfElse asked inner last → statement_of one ≡ tree.if_else condition body otherwise
    → IsIfElseOf one condition body otherwise asked inner.items last.items
if_else_is one condition body otherwise asked inner last one_is is =
    let whole = ap statement_of one_is ∙ statement_of-IfElse asked inner last in
    record { conditions = cc; bodies = cc; others = cc }

is_if_else_of : (one : Statement) (condition : tree.Expression) (body otherwise : tree.Block) (asked : Expression) (inner last : Vec Statement Global)
    → one ≡ IfElse asked inner last → IsIfElseOf one condition body otherwise asked inner.items last.items
    → statement_of one ≡ tree.if_else condition body otherwise
is_if_else_of one condition body otherwise asked inner last one_is is =
    let whole = ap statement_of one_is ∙ statement_of-IfElse asked inner last in
    let first = is.conditions in
    let second = is.bodies in
    let third = is.others in
    cc

never : (value : Bool) → value ≡ true → value ≡ false → ⊥
never value one other = cc

along : (these those : List Statement) (body : tree.Block) → these ≡ those → block_of those ≡ body → block_of these ≡ body
along these those body are is = cc

pub is_if_else-returns-then-is_same_block : goal.is_if_else-returns-then-is_same_block
is_if_else-returns-then-is_same_block t c =
    elim c.if-is_same_expression.branch [
      | is_if_else-then-is_same_expression w ↦ (
        λ yes. is_if_else_of _ _ _ _ _ _ _ c.in-IfElse.is (record {
          conditions = w.if-is_same_expression.ensures.0 (search);
          bodies = along _ _ _ (sym w.as_slice.ensures.value) (w.is_same_block.ensures.0 (search));
          others = along _ _ _ (sym c.as_slice-then-is_same_block.ensures.value) (c.is_same_block-then-is_same_block.ensures.0 yes);
        }),
        λ is. c.is_same_block-then-is_same_block.ensures.1
            (along _ _ _ c.as_slice-then-is_same_block.ensures.value (if_else_is _ _ _ _ _ _ _ c.in-IfElse.is is).others),
      )
      | is_if_else-else-is_same_expression w ↦ absurd (never _ c.if-is_same_block.true (w.value-is ∙ w.if-is_same_expression.false))
    ]

pub is_if_else-returns-else-is_same_block : goal.is_if_else-returns-else-is_same_block
is_if_else-returns-else-is_same_block t c = (
  λ yes. absurd (never _ (search) c.if-is_same_block.false),
  λ is. let parts = if_else_is _ _ _ _ _ _ _ c.in-IfElse.is is in
      elim c.if-is_same_expression.branch [
        | is_if_else-then-is_same_expression w ↦
            let yes : IsTrue w.is_same_block.result = w.is_same_block.ensures.1 (along _ _ _ w.as_slice.ensures.value parts.bodies) in search
        | is_if_else-else-is_same_expression w ↦
            let yes = w.if-is_same_expression.ensures.1 parts.conditions in search
      ],
)

loop_is : (P : Type 0) (one : Statement) (register counter turns times : ℕ) (inner : Vec Statement Global) (these body : List Statement)
    → one ≡ For counter times inner → these ≡ inner.items → counter ≡ register → times ≡ turns → (P ↔ (block_of these ≡ block_of body))
    → P ↔ (statement_of one ≡ tree.for_turns register turns (block_of body))
loop_is P one register counter turns times inner these body one_is these_are same as_often blocks =
    let whole = ap statement_of one_is ∙ statement_of-For counter times inner in
    (λ yes. let bodies = blocks.0 yes in cc, λ is. blocks.1 (cc))

pub is_loop-returns-then-times-turns : goal.is_loop-returns-then-times-turns
is_loop-returns-then-times-turns t c =
    elim c.if-counter-register.branch [
      | is_loop-then-counter-register w ↦
          loop_is _ _ _ _ _ _ _ _ _ c.in-For.is c.as_slice.ensures.value (search) (search rules) c.is_same_block.ensures
      | is_loop-else-counter-register w ↦ absurd (w.if-counter-register.false (search rules))
    ]

pub is_same_block-returns-then-one-other : goal.is_same_block-returns-then-one-other
is_same_block-returns-then-one-other t c =
    (λ yes. search, λ same. absurd (c.if-one-other.true (as_many _ _ same)))

-- what is asked of a statement's parts is asked of the statement
of_parts : (P : Type 0) (one other : Statement) (those parts : tree.Statement) → statement_of other ≡ those → those ≡ parts → (P ↔ (statement_of one ≡ parts))
    → P ↔ (statement_of one ≡ statement_of other)
of_parts P one other those parts other_is are asked = (λ yes. let same = asked.0 yes in cc, λ same. asked.1 (cc))

pub is_same_statement-returns-in-If : goal.is_same_statement-returns-in-If
is_same_statement-returns-in-If t c =
    of_parts _ _ _ _ _ (ap statement_of c.in-If.is ∙ statement_of-If c.in-If.condition c.in-If.body)
    (ap (λ these. tree.if_block (expression_of c.in-If.condition) (block_of these)) (sym c.as_slice.ensures.value)) c.is_if.ensures

pub is_same_statement-returns-in-IfElse : goal.is_same_statement-returns-in-IfElse
is_same_statement-returns-in-IfElse t c =
    of_parts _ _ _ _ _ (ap statement_of c.in-IfElse.is ∙ statement_of-IfElse c.in-IfElse.condition c.in-IfElse.body c.in-IfElse.otherwise)
    (ap (λ these. tree.if_else (expression_of c.in-IfElse.condition) (block_of these) (block_of c.in-IfElse.otherwise.items))
    (sym c.as_slice-in-IfElse.ensures.value)
    ∙ ap (λ these. tree.if_else (expression_of c.in-IfElse.condition) (block_of c.as_slice-in-IfElse.result.now) (block_of these))
    (sym c.as_slice-in-IfElse-2.ensures.value)) c.is_if_else.ensures

pub is_same_statement-returns-in-For : goal.is_same_statement-returns-in-For
is_same_statement-returns-in-For t c =
    of_parts _ _ _ _ _ (ap statement_of c.in-For.is ∙ statement_of-For c.in-For.register c.in-For.turns c.in-For.body)
    (ap (λ these. tree.for_turns c.in-For.register c.in-For.turns (block_of these)) (sym c.as_slice-in-For.ensures.value)) c.is_loop.ensures

-- a statement that is of no such form is not one
no_if : (s : Statement) (condition : tree.Expression) (body : tree.Block) → ((asked : Expression) (inner : Vec Statement Global) → s ≡ If asked inner → ⊥)
    → statement_of s ≡ tree.if_block condition body → ⊥
no_if (statements.Load l) condition body other e = cc
no_if (statements.Assign d a) condition body other e = cc
no_if (statements.Call c) condition body other e = cc
no_if (statements.If' c n b) condition body other e = other c _ (sym (roll-out-Statement (statements.If' c n b)) ∙ ap roll-Statement (outs-If' c n b) ∙ rolls-If c _)
no_if (statements.IfElse' c n b m o) condition body other e = cc
no_if (statements.For' r t n b) condition body other e = cc

no_if_else : (s : Statement) (condition : tree.Expression) (body otherwise : tree.Block)
    → ((asked : Expression) (inner last : Vec Statement Global) → s ≡ IfElse asked inner last → ⊥)
    → statement_of s ≡ tree.if_else condition body otherwise → ⊥
no_if_else (statements.Load l) condition body otherwise other e = cc
no_if_else (statements.Assign d a) condition body otherwise other e = cc
no_if_else (statements.Call c) condition body otherwise other e = cc
no_if_else (statements.If' c n b) condition body otherwise other e = cc
no_if_else (statements.IfElse' c n b m o) condition body otherwise other e = other c _ _ (sym (roll-out-Statement (statements.IfElse' c n b m o)) ∙ ap roll-Statement (outs-IfElse' c n b m o) ∙ rolls-IfElse c _ _)
no_if_else (statements.For' r t n b) condition body otherwise other e = cc

no_loop : (s : Statement) (register turns : ℕ) (body : tree.Block) → ((counter times : ℕ) (inner : Vec Statement Global) → s ≡ For counter times inner → ⊥)
    → statement_of s ≡ tree.for_turns register turns body → ⊥
no_loop (statements.Load l) register turns body other e = cc
no_loop (statements.Assign d a) register turns body other e = cc
no_loop (statements.Call c) register turns body other e = cc
no_loop (statements.If' c n b) register turns body other e = cc
no_loop (statements.IfElse' c n b m o) register turns body other e = cc
no_loop (statements.For' r t n b) register turns body other e = other r t _ (sym (roll-out-Statement (statements.For' r t n b)) ∙ ap roll-Statement (outs-For' r t n b) ∙ rolls-For r t _)

pub is_if-returns-in_default : goal.is_if-returns-in_default
is_if-returns-in_default t c = (
  λ yes. search,
  λ is. absurd (no_if c.args.statement.now (expression_of c.args.condition.now) (block_of c.args.body.now) c.in_default.not-If is),
)

pub is_if_else-returns-in_default : goal.is_if_else-returns-in_default
is_if_else-returns-in_default t c = (
  λ yes. search,
  λ is. absurd (no_if_else c.args.statement.now (expression_of c.args.condition.now) (block_of c.args.body.now)
      (block_of c.args.otherwise.now) c.in_default.not-IfElse is),
)

pub is_loop-returns-in_default : goal.is_loop-returns-in_default
is_loop-returns-in_default t c = (
  λ yes. search,
  λ is. absurd (no_loop c.args.statement.now c.args.register c.args.turns (block_of c.args.body.now) c.in_default.not-For is),
)
