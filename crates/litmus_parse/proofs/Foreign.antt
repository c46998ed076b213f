-- Bytes that no text has.
use Rattle.std.proofs.Common.{◌≡◌, ◌<◌, ◌≤◌, ℕ, zero, suc, List, [], ◌∷◌, All, Any, get_or, length, refl, subst, arith}
use Rattle.litmus_parse.specs.Answer.{IsFirstForeign}
use Rattle.litmus_parse.specs.Text.{IsTextByte}

pub same_there : (xs : List ℕ) (k d e : ℕ) → k < length xs → get_or xs k d ≡ get_or xs k e
same_there [] k d e lt = absurd (omega arith)
same_there (x ∷ xs) zero d e lt = refl
same_there (x ∷ xs) (suc k) d e lt = same_there xs k d e (omega arith)

-- the first of them is one
pub some_foreign : (text : List ℕ) (at : ℕ) → IsFirstForeign text at → Any (λ byte. IsTextByte byte → ⊥) text
some_foreign text at first = (
  at,
  get_or text at 0,
  first.within,
  same_there text at (get_or text at 0) 0 first.within,
  first.foreign,
)

-- a text has none
pub none_foreign : (text : List ℕ) → All IsTextByte text → Any (λ byte. IsTextByte byte → ⊥) text → ⊥
none_foreign text all some = some.4 (subst IsTextByte some.3 (all some.0 some.1 some.2))

pub no_first_foreign : (text : List ℕ) (at : ℕ) → All IsTextByte text → IsFirstForeign text at → ⊥
no_first_foreign text at all first = first.foreign (all at 0 first.within)

-- there is none before the place, and nothing behind it
pub all_there : (text : List ℕ) (n : ℕ) → length text ≤ n → ((k : ℕ) → k < n → IsTextByte (get_or text k 0)) → All IsTextByte text
all_there text n past before = λ k d lt. subst IsTextByte (same_there text k 0 d lt) (before k (omega arith))
