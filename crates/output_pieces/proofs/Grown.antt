-- What is made of the elements so far, with one element more.
use Rattle.std.proofs.Common.{◌≡◌, ◌∙◌, ◌+◌, ◌<◌, ◌++◌, ◌∷◌, [], ℕ, List, ap, get_or, length, sym, take}
use Rattle.std.proofs.lemmas.List.{take_more}

pub grown : {A B : Type 0} (f : List A → List B) → ((a b : List A) → f (a ++ b) ≡ f a ++ f b) → (xs : List A) (i : ℕ) (x : A)
    → i < length xs → x ≡ get_or xs i x → (ys : List B) → ys ≡ f (take i xs) → ys ++ f (x ∷ []) ≡ f (take (i + 1) xs)
grown {A = A} {B = B} f splits xs i x within is ys so_far =
    ap (λ (t : List B). t ++ f (x ∷ [])) so_far
    ∙ sym (ap f (take_more xs i x within ∙ ap (λ (y : A). take i xs ++ y ∷ []) (sym is)) ∙ splits (take i xs) (x ∷ []))
