-- what passes a test stands in front
use Rattle.std.proofs.Common.{◌≡◌, ◌+◌, ◌≤◌, ◌∷◌, ℕ, zero, suc, List, [], Bool, true, false, ap, arith, cond, length, sym}
use Rattle.std.specs.Prelude.{count_by}
use Rattle.std.specs.List.{AllWithin}
use Rattle.std.proofs.lemmas.List.Sums.{sum_by-cons}
use Rattle.std.specs.List.Sorted.{IsPartitionPoint}

-- so many pass a test as stand before the first that doesn't
counted : {X : Type 0} (p : X → Bool) (xs : List X) (i : ℕ) → i ≤ length xs → AllWithin (λ y. p y ≡ true) xs 0 i
    → AllWithin (λ y. p y ≡ false) xs i (length xs) → count_by p xs ≡ i
counted p [] i within passing failing = omega arith
counted p (x ∷ xs) zero within passing failing =
    let here : p x ≡ false = failing 0 x (omega arith) (omega arith) in
    let more : count_by p xs ≡ 0 =
    counted p xs zero (omega arith) (λ k d low high. absurd (omega arith)) (λ k d low high. failing (suc k) d (omega arith) (omega arith)) in
    let one : cond {A = ℕ} (p x) 1 0 ≡ 0 = ap (λ (b : Bool). cond {A = ℕ} b 1 0) here in
    let both : count_by p (x ∷ xs) ≡ cond {A = ℕ} (p x) 1 0 + count_by p xs = sum_by-cons (λ y. cond (p y) 1 0) x xs in
    omega (arith, both, one, more)
counted p (x ∷ xs) (suc i) within passing failing =
    let here : p x ≡ true = passing 0 x (omega arith) (omega arith) in
    let more : count_by p xs ≡ i =
    counted p xs i (omega arith) (λ k d low high. passing (suc k) d (omega arith) (omega arith))
    (λ k d low high. failing (suc k) d (omega arith) (omega arith)) in
    let one : cond {A = ℕ} (p x) 1 0 ≡ 1 = ap (λ (b : Bool). cond {A = ℕ} b 1 0) here in
    let both : count_by p (x ∷ xs) ≡ cond {A = ℕ} (p x) 1 0 + count_by p xs = sum_by-cons (λ y. cond (p y) 1 0) x xs in
    omega (arith, both, one, more)

pub partition_counts : {X : Type 0} (p : X → Bool) (xs : List X) (i : ℕ) → i ≤ length xs
    → IsPartitionPoint (λ y. p y ≡ true) (λ y. p y ≡ false) xs i → i ≡ count_by p xs
partition_counts p xs i within h = sym (counted p xs i within h.0 h.1)
