-- What a statement with blocks keeps and counts, and a block with a first statement.
use Rattle.std.proofs.Common.{◌≡◌, ◌≤◌, ◌<◌, ◌∙◌, ◌+◌, ◌*◌, ℕ, zero, suc, List, [], ◌∷◌, ap, arith, drop, drop-cons, get_or, length, refl, subst, sym, if◌then◌else◌}
use Rattle.std.proofs.Math.Nat.{mul_assoc}
use Rattle.litmus_syntax.specs.Kept.{Adds, BlockIsKept, StatementIsKept}
use Rattle.litmus_syntax.specs.Limits.{BlockScopes, BlockTurns, ExpressionTyped, IsVariable, block_repeats, block_rises, expression_rises, scopes_of}
use Rattle.litmus_syntax.specs.Sites.{expression_has_access}
use Rattle.litmus_syntax.specs.Tree.{Block, Expression, Statement}
use Rattle.litmus_syntax.specs.Tree as tree
use Rattle.litmus_syntax.specs.declared.limits.Enclosing.{Enclosing}
use Rattle.litmus_syntax.specs.declared.limits.Scope.{Scope}
use Rattle.litmus_syntax.specs.declared.limits.Tally.{Tally}
use Rattle.litmus_syntax.specs.declared.statement.Statement as coded
use Rattle.litmus_syntax.specs.Views.{block_of, statement_of}

pub none_kept : (scope : Scope) (place : Enclosing) (old : Tally) → BlockIsKept scope place old old tree.empty
none_kept scope place old = record {
  adds = record { statements = omega arith; repeats = omega arith; rises = omega arith };
  turns = tt;
  scopes = tt;
  typed = tt;
}

pub first_kept : (scope : Scope) (place behind : Enclosing) (old middle new : Tally) (s : Statement) (rest : Block)
    → StatementIsKept scope place old middle s
    → behind.turns ≡ place.turns → behind.scopes ≡ place.scopes + scopes_of s
    → BlockIsKept scope behind middle new rest
    → BlockIsKept scope place old new (tree.first s rest)
first_kept scope place behind old middle new s rest here turns scopes later =
    let h = here.adds in
    let l = later.adds in
    let h1 = h.statements in
    let h2 = h.repeats in
    let h3 = h.rises in
    let l1 = l.statements in
    let l2 : new.repeats ≡ middle.repeats + block_repeats place.turns rest
    = subst (λ (t : ℕ). new.repeats ≡ middle.repeats + block_repeats t rest) turns l.repeats in
    let l3 : new.rises ≡ middle.rises + place.turns * block_rises rest
    = subst (λ (t : ℕ). new.rises ≡ middle.rises + t * block_rises rest) turns l.rises in
    record {
      adds = record { statements = omega (arith, h1, l1); repeats = omega (arith, h2, l2); rises = omega (arith, h3, l3) };
      turns = (here.turns, subst (λ (t : ℕ). BlockTurns t rest) turns later.turns);
      scopes = (here.scopes, subst (λ (n : ℕ). BlockScopes n rest) scopes later.scopes);
      typed = (here.typed, later.typed);
    }

-- a condition is counted
abbrev pub Conditioned : Enclosing → Tally → Tally → Expression → Type 0
Conditioned place old new e =
    Adds old new 1 (if expression_has_access e then place.turns else 0) (place.turns * expression_rises e)

pub if_kept : (scope : Scope) (place : Enclosing) (old middle new : Tally) (e : Expression) (body : Block)
    → Conditioned place old middle e → ExpressionTyped (IsVariable scope.variables.now) scope.registers e
    → BlockIsKept scope place middle new body
    → StatementIsKept scope place old new (tree.if_block e body)
if_kept scope place old middle new e body here typed later =
    let h1 = here.statements in
    let h2 = here.repeats in
    let h3 = here.rises in
    let l1 = later.adds.statements in
    let l2 = later.adds.repeats in
    let l3 = later.adds.rises in
    record {
      adds = record { statements = omega (arith, h1, l1); repeats = omega (arith, h2, l2); rises = omega (arith, h3, l3) };
      turns = later.turns;
      scopes = later.scopes;
      typed = (typed, later.typed);
    }

pub if_else_kept : (scope : Scope) (place : Enclosing) (old middle next new : Tally) (e : Expression) (body otherwise : Block)
    → Conditioned place old middle e → ExpressionTyped (IsVariable scope.variables.now) scope.registers e
    → BlockIsKept scope place middle next body → BlockIsKept scope place next new otherwise
    → StatementIsKept scope place old new (tree.if_else e body otherwise)
if_else_kept scope place old middle next new e body otherwise here typed later other =
    let h1 = here.statements in
    let h2 = here.repeats in
    let h3 = here.rises in
    let l1 = later.adds.statements in
    let l2 = later.adds.repeats in
    let l3 = later.adds.rises in
    let o1 = other.adds.statements in
    let o2 = other.adds.repeats in
    let o3 = other.adds.rises in
    record {
      adds = record { statements = omega (arith, h1, l1, o1); repeats = omega (arith, h2, l2, o2); rises = omega (arith, h3, l3, o3) };
      turns = (later.turns, other.turns);
      scopes = (later.scopes, other.scopes);
      typed = (typed, (later.typed, other.typed));
    }

pub for_kept : (scope : Scope) (place inside : Enclosing) (old middle new : Tally) (register turns : ℕ) (body : Block)
    → turns ≤ 256 → inside.turns ≡ place.turns * turns → inside.scopes ≡ place.scopes
    → Adds old middle 1 0 (place.turns * 0) → register < scope.registers
    → BlockIsKept scope inside middle new body
    → StatementIsKept scope place old new (tree.for_turns register turns body)
for_kept scope place inside old middle new register turns body few repeated scopes here there later =
    let h1 = here.statements in
    let h2 = here.repeats in
    let h3 = here.rises in
    let l1 = later.adds.statements in
    let l2 : new.repeats ≡ middle.repeats + block_repeats (place.turns * turns) body
    = subst (λ (t : ℕ). new.repeats ≡ middle.repeats + block_repeats t body) repeated later.adds.repeats in
    let l3 : new.rises ≡ middle.rises + place.turns * turns * block_rises body
    = subst (λ (t : ℕ). new.rises ≡ middle.rises + t * block_rises body) repeated later.adds.rises in
    let both = mul_assoc place.turns turns (block_rises body) in
    record {
      adds = record { statements = omega (arith, h1, l1); repeats = omega (arith, h2, l2); rises = omega (arith, h3, l3, both) };
      turns = (few, (subst (λ (t : ℕ). t ≤ 256) repeated inside.repeated, subst (λ (t : ℕ). BlockTurns t body) repeated later.turns));
      scopes = subst (λ (n : ℕ). BlockScopes n body) scopes later.scopes;
      typed = (there, later.typed);
    }

-- the statements from a place of a block on
pub next_block : (i : ℕ) (block : List coded.Statement) (s : coded.Statement) → i < length block → s ≡ get_or block i s
    → block_of (drop i block) ≡ tree.first (statement_of s) (block_of (drop (i + 1) block))
next_block i block s below is =
    let there : get_or block i s ≡ s = sym is in
    let whole : drop i block ≡ get_or block i s ∷ drop (suc i) block = drop-cons block i s below in
    let here : drop i block ≡ s ∷ drop (suc i) block
    = subst (λ (x : coded.Statement). drop i block ≡ x ∷ drop (suc i) block) there whole in
    let more : suc i ≡ i + 1 = omega arith in
    let both : drop i block ≡ s ∷ drop (i + 1) block
    = subst (λ (n : ℕ). drop i block ≡ s ∷ drop n block) more here in
    ap block_of both

pub past_block : (block : List coded.Statement) (i : ℕ) → length block ≤ i → block_of (drop i block) ≡ tree.empty
past_block [] zero past = refl
past_block [] (suc i) past = refl
past_block (x ∷ xs) zero past = absurd (omega arith)
past_block (x ∷ xs) (suc i) past = past_block xs i (omega arith)
