-- A function that has another value at one number.
use Rattle.std.proofs.Common.{◌≡◌, ◌≢◌, ℕ, true, false, cond, eqb, refl, sym, inl, inr, ◌⊎◌}
use Rattle.std.proofs.lemmas.Bool.{eq-eqb, ne_eqb}
use Rattle.std.proofs.lemmas.Bool.Decides.{eqb_tells}
use mathlib.Core.Path.{fun_ext}

-- a function with another value at a number
abbrev pub updated : {X : Type 0} → (ℕ → X) → ℕ → X → ℕ → X
updated f k x n = cond (eqb k n) x (f n)

pub updated_here : {X : Type 0} (f : ℕ → X) (k : ℕ) (x : X) → updated f k x k ≡ x
updated_here f k x = rw (eq-eqb k k refl) refl

pub updated_other : {X : Type 0} (f : ℕ → X) (k n : ℕ) (x : X) → n ≢ k → updated f k x n ≡ f n
updated_other f k n x apart = rw (ne_eqb k n (λ e. apart (sym e))) refl

-- the value that it has is no other
pub updated_same : {X : Type 0} (f : ℕ → X) (k : ℕ) (x : X) → x ≡ f k → updated f k x ≡ f
updated_same f k x same = fun_ext (λ n. at n (eqb_tells k n))
  where
    at : (n : ℕ) → ((eqb k n ≡ true) × (k ≡ n)) ⊎ ((eqb k n ≡ false) × (k ≢ n))
        → updated f k x n ≡ f n
    at n (inl here) = cc
    at n (inr there) = rw there.0 refl
