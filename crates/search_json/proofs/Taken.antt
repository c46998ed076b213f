-- Lists up to and with one place more.
use Rattle.std.proofs.Common.{◌≡◌, ◌∙◌, ◌+◌, ◌++◌, ◌∷◌, [], ℕ, List, Some, ap, map, slice_get, sym, take}
use Rattle.std.proofs.lemmas.List.{map-append, take_more}
use Rattle.std.proofs.lemmas.Option.{get_or_from_slice_get, slice_get_within}

-- the values of the items up to and with one more
pub mapped_more : {A B : Type 0} (f : A → B) (xs : List A) (place : ℕ) (x : A) (before : List B) (value : B)
    → before ≡ map f (take place xs) → value ≡ f x → Some x ≡ slice_get xs place → before ++ value ∷ [] ≡ map f (take (place + 1) xs)
mapped_more f xs place x before value b v is =
    ap (λ vs. vs ++ value ∷ []) b ∙ ap (λ w. map f (take place xs) ++ w ∷ []) v
    ∙ sym (map-append f (take place xs) (x ∷ []))
    ∙ sym (ap (map f) (take_more xs place x (slice_get_within xs place x (sym is))
    ∙ ap (λ y. take place xs ++ y ∷ []) (get_or_from_slice_get xs place x x (sym is))))
