-- What is found among values of the code is found among them without where they lie in memory.
use Rattle.std.proofs.Common.{◌≡◌, ◌∙◌, ℕ, ◌+◌, List, [], ◌∷◌, Bool, true, false, not, nat_lt, cond, Option, Some, None, length, refl, sym, ap, map}
use Rattle.std.specs.Prelude.{find, position, option_map}
use Rattle.std.specs.List.{prefix_len}
use Rattle.std.proofs.lemmas.List.{length-map}

find_here : {A B : Type 0} (f : A → B) (b : Bool) (x : A) (rest : Option A) (there : Option B)
    → option_map f rest ≡ there → option_map f (cond b (Some x) rest) ≡ cond b (Some (f x)) there
find_here f true x rest there e = refl
find_here f false x rest there e = e

pub find_map : {A B : Type 0} (f : A → B) (test : B → Bool) (xs : List A)
    → option_map f (find (λ x. test (f x)) xs) ≡ find test (map f xs)
find_map f test [] = refl
find_map f test (x ∷ xs) = find_here f (test (f x)) x (find (λ y. test (f y)) xs) (find test (map f xs)) (find_map f test xs)

prefix_map : {A B : Type 0} (f : A → B) (test : B → Bool) (xs : List A)
    → prefix_len (λ x. test (f x)) xs ≡ prefix_len test (map f xs)
prefix_map f test [] = refl
prefix_map f test (x ∷ xs) = ap (λ (n : ℕ). cond (test (f x)) (1 + n) 0) (prefix_map f test xs)

pub position_map : {A B : Type 0} (f : A → B) (test : B → Bool) (xs : List A)
    → position (λ x. test (f x)) xs ≡ position test (map f xs)
position_map f test xs =
    let same = prefix_map f (λ y. not (test y)) xs in
    let n = prefix_len (λ y. not (test y)) (map f xs) in
    ap (λ (m : ℕ). cond (nat_lt m (length xs)) (Some m) None) same
    ∙ ap (λ (m : ℕ). cond (nat_lt n m) (Some n) None) (sym (length-map xs f))
