-- Turns that suffice are enough: a reader whose parts take symbols reads the same however many more it may have.
use Rattle.std.proofs.Common.{◌≡◌, ℕ, zero, suc, ◌<◌, ◌≤◌, Option, Some, refl, arith}
use Rattle.litmus_lex.specs.Front.{◌>>=◌}
use Rattle.litmus_expression.proofs.Fewer.{at_last, behind_it}
use Rattle.litmus_expression.proofs.Unrolled.{then_same}
use Rattle.litmus_parse.specs.Turns.{Turn, again, done, going, turned}

module _ {A B : Type 0} (size : A → ℕ) (step : A → Option (Turn A B)) (short : (a u : A) → step a ≡ Some (again u) → size u < size a) where
  same_turn : (f g : ℕ) (a : A) → ((u : A) → size u < size a → going step f u ≡ going step g u) → (t : Turn A B) → step a ≡ Some t
      → turned (going step f) t ≡ turned (going step g) t
  same_turn f g a h (again u) e = h u (short a u e)
  same_turn f g a h (done b) e = refl

  pub going_same : (f g : ℕ) (a : A) → size a < f → size a < g → going step f a ≡ going step g a
  unfolding going
  going_same zero g a lf lg = absurd (omega arith)
  going_same (suc f) zero a lf lg = absurd (omega arith)
  going_same (suc f) (suc g) a lf lg =
      then_same (step a) (λ t. turned (going step f) t) (λ t. turned (going step g) t)
      (λ t e. same_turn f g a (λ u lt. going_same f g u (omega arith) (omega arith)) t e)

  pub going_unrolls : (a : A) → going step (suc (size a)) a ≡ (step a >>= λ t. turned (λ u. going step (suc (size u)) u) t)
  unfolding going
  going_unrolls a = then_same (step a) (λ t. turned (going step (size a)) t) (λ t. turned (λ u. going step (suc (size u)) u) t)
      (λ t e. one t e)
    where
      one : (t : Turn A B) → step a ≡ Some t → turned (going step (size a)) t ≡ turned (λ u. going step (suc (size u)) u) t
      one (again u) e = let lt = short a u e in going_same (size a) (suc (size u)) u (omega arith) (omega arith)
      one (done b) e = refl

one_at_most : {A B : Type 0} (size : A → ℕ) (left : B → ℕ) (step : A → Option (Turn A B))
    → ((a u : A) → step a ≡ Some (again u) → size u < size a)
    → ((a : A) (b : B) → step a ≡ Some (done b) → left b ≤ size a) → (f : ℕ) (a : A) (b : B)
    → ((u : A) → going step f u ≡ Some b → left b ≤ size u)
    → (t : Turn A B) → step a ≡ Some t → turned (going step f) t ≡ Some b → left b ≤ size a
one_at_most size left step short ends f a b later (again u) is e =
    let one = short a u is in
    let two = later u e in
    omega arith
one_at_most size left step short ends f a b later (done c) is e = at_last c (λ d. left d ≤ size a) b e (ends a c is)

-- what is left behind the last part is no more than before the first
pub going_at_most : {A B : Type 0} (size : A → ℕ) (left : B → ℕ) (step : A → Option (Turn A B))
    → ((a u : A) → step a ≡ Some (again u) → size u < size a)
    → ((a : A) (b : B) → step a ≡ Some (done b) → left b ≤ size a) → (f : ℕ) (a : A) (b : B) → going step f a ≡ Some b → left b ≤ size a
unfolding going
going_at_most size left step short ends zero a b e = absurd cc
going_at_most size left step short ends (suc f) a b e =
    behind_it (step a) (λ t. turned (going step f) t) (λ c. left c ≤ size a) b e
    (λ t is e. one_at_most size left step short ends f a b (λ u e. going_at_most size left step short ends f u b e) t is e)
