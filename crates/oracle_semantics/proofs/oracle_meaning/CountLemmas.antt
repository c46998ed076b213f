-- How many sites a statement with blocks has.
use Rattle.std.proofs.Common.{◌≡◌, ◌+◌, ◌++◌, ℕ, Bool, true, false, [], ◌∷◌, arith, if◌then◌else◌, length, length-append, refl}
use Rattle.litmus_syntax.specs.Sites.{accesses_of, has_access, itself, sites_of}
use Rattle.litmus_syntax.specs.Tree.{Block, Expression, Statement}
use Rattle.litmus_syntax.specs.Tree as tree

pub two_sums : {a b c d : ℕ} → a ≡ b → c ≡ d → a + c ≡ b + d
two_sums p q = omega arith

-- a statement makes one access itself, or none
itself_counts : (s : Statement) → length (itself s) ≡ (if has_access s then 1 else 0)
itself_counts s = at (has_access s) where
  at : (has : Bool) → length (if has then s ∷ [] else []) ≡ (if has then 1 else 0)
  at true = refl
  at false = refl

pub if_counts : (e : Expression) (body : Block)
    → length (accesses_of (tree.if_block e body)) ≡ (if has_access (tree.if_block e body) then 1 else 0) + length (sites_of body)
if_counts e body = rw (length-append (itself (tree.if_block e body)) (sites_of body), itself_counts (tree.if_block e body)) refl

pub else_counts : (e : Expression) (body otherwise : Block)
    → length (accesses_of (tree.if_else e body otherwise)) ≡ (if has_access (tree.if_else e body otherwise) then 1 else 0) + (length (sites_of body) + length (sites_of otherwise))
else_counts e body otherwise =
    rw (length-append (itself (tree.if_else e body otherwise)) (sites_of body ++ sites_of otherwise), length-append (sites_of body) (sites_of otherwise), itself_counts (tree.if_else e body otherwise)) refl
