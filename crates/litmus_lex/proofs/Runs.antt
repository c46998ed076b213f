-- Runs and pairs of bytes, from what is known of the byte at each index.
use Rattle.std.proofs.Common.{◌≡◌, ℕ, zero, suc, ◌<◌, ◌≤◌, List, [], ◌∷◌, true, false, length, get_or, take, drop, arith}
use Rattle.litmus_lex.specs.declared.bytes.Class.{Class}
use Rattle.litmus_lex.specs.Bytes.{belongs, EndsAtPair, IsRun, LacksPair}

-- bytes of the class up to one that isn't
pub run_from_reads : (class : Class) (bytes : List ℕ) (n : ℕ) → n ≤ length bytes
    → ((k : ℕ) → k < n → belongs class (get_or bytes k 0) ≡ true)
    → (n < length bytes → belongs class (get_or bytes n 0) ≡ false)
    → IsRun class (take n bytes) (drop n bytes)
run_from_reads class [] zero within reads stops = tt
run_from_reads class [] (suc n) within reads stops = absurd (omega arith)
run_from_reads class (b ∷ bytes) zero within reads stops = stops (omega arith)
run_from_reads class (b ∷ bytes) (suc n) within reads stops = (
  reads 0 (omega arith),
  run_from_reads class bytes n (omega arith) (λ k below. reads (suc k) (omega arith))
      (λ inside. stops (omega arith)),
)

-- the pair stands at an index
abbrev pub IsPairAt : ℕ → ℕ → List ℕ → ℕ → Type 0
IsPairAt first second bytes k = (get_or bytes k 0 ≡ first) × (get_or bytes (suc k) 0 ≡ second)

-- the pair stands at n, and nowhere before
pub ends_at_pair_from_reads : (first second : ℕ) (bytes : List ℕ) (n : ℕ) → suc n < length bytes
    → ((k : ℕ) → k < n → IsPairAt first second bytes k → ⊥) → IsPairAt first second bytes n
    → EndsAtPair first second (take (suc (suc n)) bytes)
ends_at_pair_from_reads first second [] n within before here = absurd (omega arith)
ends_at_pair_from_reads first second (a ∷ []) n within before here = absurd (omega arith)
ends_at_pair_from_reads first second (a ∷ b ∷ bytes) zero within before here = here
ends_at_pair_from_reads first second (a ∷ b ∷ []) (suc n) within before here = absurd (omega arith)
ends_at_pair_from_reads first second (a ∷ b ∷ c ∷ bytes) (suc n) within before here = (
  before 0 (omega arith),
  ends_at_pair_from_reads first second (b ∷ c ∷ bytes) n (omega arith)
      (λ k below pair. before (suc k) (omega arith) pair) here,
)

-- the pair stands at no index
pub lacks_pair_from_reads : (first second : ℕ) (bytes : List ℕ)
    → ((k : ℕ) → suc k < length bytes → IsPairAt first second bytes k → ⊥)
    → LacksPair first second bytes
lacks_pair_from_reads first second [] nowhere = tt
lacks_pair_from_reads first second (a ∷ []) nowhere = tt
lacks_pair_from_reads first second (a ∷ b ∷ bytes) nowhere = (
  nowhere 0 (omega arith),
  lacks_pair_from_reads first second (b ∷ bytes)
      (λ k below pair. nowhere (suc k) (omega arith) pair),
)
