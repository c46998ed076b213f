-- A sign that is the first two bytes, or the first one, stands at the front.
use Rattle.std.proofs.Common.{◌≡◌, ℕ, ◌≤◌, List, [], ◌∷◌, ◌++◌, ap, arith, drop, get_or, length, sym}

-- two bytes at the front, or one
pub begins_two : (bytes spelling : List ℕ) → 2 ≤ length bytes
    → spelling ≡ get_or bytes 0 0 ∷ get_or bytes 1 0 ∷ [] → bytes ≡ spelling ++ drop 2 bytes
begins_two [] spelling two is = absurd (omega arith)
begins_two (a ∷ []) spelling two is = absurd (omega arith)
begins_two (a ∷ b ∷ bytes) spelling two is = ap (λ xs. xs ++ bytes) (sym is)

pub begins_one : (bytes spelling : List ℕ) → 1 ≤ length bytes → spelling ≡ get_or bytes 0 0 ∷ []
    → bytes ≡ spelling ++ drop 1 bytes
begins_one [] spelling one is = absurd (omega arith)
begins_one (a ∷ bytes) spelling one is = ap (λ xs. xs ++ bytes) (sym is)
