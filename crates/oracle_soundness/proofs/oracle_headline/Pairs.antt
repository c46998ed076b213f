-- A number that isn't among others that differ differs from them.
use Rattle.std.proofs.Common.{◌≡◌, ◌≢◌, ◌≤◌, ◌-◌, ◌∷◌, ◌∙◌, [], ℕ, suc, All, AllPairs, Contains, List, arith, drop, length, slice_index_or, subst, sym, take}
use Rattle.std.proofs.Math.Seq.{take-length}
use Rattle.std.proofs.lemmas.List.{get_or_default}
use Rattle.std.proofs.lemmas.List.Kept.{AllPairs-cons}

others : (x : ℕ) (xs : List ℕ) → ¬ Contains xs x → All (λ (y : ℕ). x ≢ y) xs
others x xs none = λ place other below. λ same. none (place, below, get_or_default xs place x other below ∙ sym same)

pub pairs_front : (numbers : List ℕ) → 1 ≤ length numbers → ¬ Contains (take (length numbers - 1) (drop 1 numbers)) (slice_index_or numbers 0 0)
    → AllPairs ◌≢◌ (take (length numbers - 1) (drop 1 numbers)) → AllPairs ◌≢◌ numbers
pairs_front [] some none pairs = absurd (omega (arith, some))
pairs_front (x ∷ xs) some none pairs =
    let same : take (suc (length xs) - 1) xs ≡ xs = rest_is xs in
    AllPairs-cons ◌≢◌ x xs (others x xs (subst (λ (l : List ℕ). ¬ Contains l x) same none)) (subst (λ (l : List ℕ). AllPairs ◌≢◌ l) same pairs)
  where
    rest_is : (l : List ℕ) → take (suc (length l) - 1) l ≡ l
    rest_is l = let n : suc (length l) - 1 ≡ length l = omega arith in rw n (take-length l)
