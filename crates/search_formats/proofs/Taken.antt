-- Lists up to and with one place more.
use Rattle.std.proofs.Common.{◌≡◌, ◌∙◌, ◌+◌, ◌++◌, ◌∷◌, [], ℕ, List, Some, ap, append-nil, slice_get, sym, take}
use Rattle.std.specs.List.{flat_map}
use Rattle.std.proofs.lemmas.List.{append_assoc, take_more}
use Rattle.std.proofs.lemmas.Option.{get_or_from_slice_get, slice_get_within}

flat_map_push : {A : Type 0} (f : A → List ℕ) (xs : List A) (x : A) → flat_map f (xs ++ x ∷ []) ≡ flat_map f xs ++ f x
flat_map_push f [] x = append-nil (f x)
flat_map_push f (y ∷ xs) x = ap (λ t. f y ++ t) (flat_map_push f xs x) ∙ sym (append_assoc (f y) (flat_map f xs) (f x))

-- the lines of the items up to and with one more
pub lines_more : {A : Type 0} (f : A → List ℕ) (xs : List A) (place : ℕ) (x : A) (before line : List ℕ)
    → before ≡ flat_map f (take place xs) → line ≡ f x → Some x ≡ slice_get xs place → before ++ line ≡ flat_map f (take (place + 1) xs)
lines_more f xs place x before line b l is =
    ap (λ t. t ++ line) b ∙ ap (λ t. flat_map f (take place xs) ++ t) l
    ∙ sym (flat_map_push f (take place xs) x)
    ∙ sym (ap (flat_map f) (take_more xs place x (slice_get_within xs place x (sym is))
    ∙ ap (λ y. take place xs ++ y ∷ []) (get_or_from_slice_get xs place x x (sym is))))
