-- Counts that stay at a greatest number.
use native.Mathlib.Omega.{arith}
use Rattle.std.proofs.Common.{◌≡◌, ◌∙◌, ◌+◌, ◌++◌, ◌≤◌, ◌<◌, ℕ, Bool, true, false, if◌then◌else◌, [], ◌∷◌, List, add-one}
use Rattle.std.proofs.Common.{ap, drop, drop-cons, get_or, length, length-append, max, min, refl, suc, sym}
use Rattle.litmus_syntax.specs.Sites.{accesses_of, has_access, itself, sites_of}
use Rattle.litmus_syntax.specs.declared.statement.Statement.{Statement as Coded}
use Rattle.litmus_syntax.specs.Tree.{Block, Expression, Statement}
use Rattle.litmus_syntax.specs.Tree as tree

pub one_capped : (own body b r m : ℕ) → b ≡ min body m → r ≡ min (own + b) m → r ≡ min (own + body) m
one_capped own body b r m is result = omega (arith, is, result)

pub two_capped : (own body other b o both r m : ℕ) → b ≡ min body m → o ≡ min other m → both ≡ min (b + o) m → r ≡ min (own + both) m
    → r ≡ min (own + (body + other)) m
two_capped own body other b o both r m first second sum result = omega (arith, first, second, sum, result)

-- a statement makes one access itself, or none
pub itself_counts : (s : Statement) → length (itself s) ≡ (if has_access s then 1 else 0)
itself_counts s = at (has_access s) where
  at : (has : Bool) → length (if has then s ∷ [] else []) ≡ (if has then 1 else 0)
  at true = refl
  at false = refl

pub if_counts : (e : Expression) (body : Block)
    → length (accesses_of (tree.if_block e body)) ≡ (if has_access (tree.if_block e body) then 1 else 0) + length (sites_of body)
if_counts e body = rw (length-append (itself (tree.if_block e body)) (sites_of body), itself_counts (tree.if_block e body)) refl

pub else_counts : (e : Expression) (body otherwise : Block)
    → length (accesses_of (tree.if_else e body otherwise)) ≡ (if has_access (tree.if_else e body otherwise) then 1 else 0) + (length (sites_of body) + length (sites_of otherwise))
else_counts e body otherwise =
    rw (length-append (itself (tree.if_else e body otherwise)) (sites_of body ++ sites_of otherwise), length-append (sites_of body) (sites_of otherwise), itself_counts (tree.if_else e body otherwise)) refl

-- all is counted
pub counted_all : (count none all m : ℕ) → count ≤ m → none ≡ 0 → min (count + none) m ≡ min all m → count ≡ min all m
counted_all count none all m fits is h = omega (arith, fits, is, h)

pub one_deeper : (body d r m : ℕ) → d ≡ min body m → r ≡ min (d + 1) m → r ≡ min (1 + body) m
one_deeper body d r m is result = omega (arith, is, result)

pub two_deeper : (body other b o both r m : ℕ) → b ≡ min body m → o ≡ min other m → both ≡ max b o → r ≡ min (both + 1) m
    → r ≡ min (1 + max body other) m
two_deeper body other b o both r m first second deeper result = omega (arith, first, second, deeper, result)

-- one statement more is counted
pub counted_more : (count own found new rest left all m : ℕ) → count ≤ m → found ≡ min own m → new ≡ min (found + count) m → left ≡ own + rest
    → min (count + left) m ≡ min all m → (new ≤ m) × (min (new + rest) m ≡ min all m)
counted_more count own found new rest left all m fits is result both h =
    (omega (arith, result), omega (arith, fits, is, result, both, h))

-- what a statement and those behind it have in each other is that of all
pub deep_more : (depth own found new rest left all m : ℕ) → depth ≤ m → found ≡ min own m → new ≡ max depth found → left ≡ max own rest
    → min (max depth left) m ≡ min all m → (new ≤ m) × (min (max new rest) m ≡ min all m)
deep_more depth own found new rest left all m fits is result both h =
    (omega (arith, fits, is, result), omega (arith, fits, is, result, both, h))

pub deep_all : (depth none all m : ℕ) → depth ≤ m → none ≡ 0 → min (max depth none) m ≡ min all m → depth ≡ min all m
deep_all depth none all m fits is h = omega (arith, fits, is, h)

-- the statement of the turn and those behind it are what was left
pub left_now : (block : List Coded) (i : ℕ) (s : Coded) → i < length block → s ≡ get_or block i s
    → drop i block ≡ s ∷ drop (i + 1) block
left_now block i s within is = rw add-one (drop-cons block i s within ∙ ap (λ first. first ∷ drop (suc i) block) (sym is))
