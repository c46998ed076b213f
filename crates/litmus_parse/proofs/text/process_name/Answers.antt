-- Each name is that of its number.
use Rattle.std.proofs.Common.{◌≡◌, ℕ, [], ◌∷◌, refl, sym, subst, arith}
use Rattle.std.specs.Fmt.{digits}
use Rattle.litmus_parse.specs.Processes.{process_name}
use Rattle.litmus_parse.proofs.text.process_name.Goals as goal

pub returns-in-0 : goal.returns-in-0
unfolding digits
returns-in-0 c = subst (λ (n : ℕ). 80 ∷ 48 ∷ [] ≡ process_name n) (sym c.in-0.is) refl

pub returns-in-1 : goal.returns-in-1
unfolding digits
returns-in-1 c = subst (λ (n : ℕ). 80 ∷ 49 ∷ [] ≡ process_name n) (sym c.in-1.is) refl

pub returns-in-2 : goal.returns-in-2
unfolding digits
returns-in-2 c = subst (λ (n : ℕ). 80 ∷ 50 ∷ [] ≡ process_name n) (sym c.in-2.is) refl

pub returns-in-3 : goal.returns-in-3
unfolding digits
returns-in-3 c = subst (λ (n : ℕ). 80 ∷ 51 ∷ [] ≡ process_name n) (sym c.in-3.is) refl

pub returns-in-4 : goal.returns-in-4
unfolding digits
returns-in-4 c = subst (λ (n : ℕ). 80 ∷ 52 ∷ [] ≡ process_name n) (sym c.in-4.is) refl

pub returns-in-5 : goal.returns-in-5
unfolding digits
returns-in-5 c = subst (λ (n : ℕ). 80 ∷ 53 ∷ [] ≡ process_name n) (sym c.in-5.is) refl

pub returns-in-6 : goal.returns-in-6
unfolding digits
returns-in-6 c = subst (λ (n : ℕ). 80 ∷ 54 ∷ [] ≡ process_name n) (sym c.in-6.is) refl

pub returns-in-7 : goal.returns-in-7
unfolding digits
returns-in-7 c = subst (λ (n : ℕ). 80 ∷ 55 ∷ [] ≡ process_name n) (sym c.in-7.is) refl

pub returns-in-8 : goal.returns-in-8
unfolding digits
returns-in-8 c = subst (λ (n : ℕ). 80 ∷ 56 ∷ [] ≡ process_name n) (sym c.in-8.is) refl

pub returns-in-9 : goal.returns-in-9
unfolding digits
returns-in-9 c = subst (λ (n : ℕ). 80 ∷ 57 ∷ [] ≡ process_name n) (sym c.in-9.is) refl

pub returns-in-10 : goal.returns-in-10
unfolding digits
returns-in-10 c = subst (λ (n : ℕ). 80 ∷ 49 ∷ 48 ∷ [] ≡ process_name n) (sym c.in-10.is) refl

pub returns-in-11 : goal.returns-in-11
unfolding digits
returns-in-11 c = subst (λ (n : ℕ). 80 ∷ 49 ∷ 49 ∷ [] ≡ process_name n) (sym c.in-11.is) refl

pub returns-in-12 : goal.returns-in-12
unfolding digits
returns-in-12 c = subst (λ (n : ℕ). 80 ∷ 49 ∷ 50 ∷ [] ≡ process_name n) (sym c.in-12.is) refl

pub returns-in-13 : goal.returns-in-13
unfolding digits
returns-in-13 c = subst (λ (n : ℕ). 80 ∷ 49 ∷ 51 ∷ [] ≡ process_name n) (sym c.in-13.is) refl

pub returns-in-14 : goal.returns-in-14
unfolding digits
returns-in-14 c = subst (λ (n : ℕ). 80 ∷ 49 ∷ 52 ∷ [] ≡ process_name n) (sym c.in-14.is) refl

pub returns-in-15 : goal.returns-in-15
unfolding digits
returns-in-15 c = subst (λ (n : ℕ). 80 ∷ 49 ∷ 53 ∷ [] ≡ process_name n) (sym c.in-15.is) refl

pub returns-in_default : goal.returns-in_default
unfolding digits
returns-in_default c =
    let last : c.args.number ≡ 16 = omega (arith, c.in_default, c.requires) in
    subst (λ (n : ℕ). 80 ∷ 49 ∷ 54 ∷ [] ≡ process_name n) (sym last) refl
