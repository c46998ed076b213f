-- lists whose elements stand for those of others
use Rattle.std.proofs.Common.{◌≡◌, ◌<◌, ◌+◌, ◌++◌, ◌∷◌, ℕ, List, [], get_or, length, subst, sym, take}
use Rattle.std.specs.Prelude.{All}
use Rattle.std.specs.List.{AllZip}
use Rattle.std.proofs.lemmas.List.{take_more}
use Rattle.std.proofs.lemmas.List.Elements.{All-cons, All-nil}

zip_push : {A B : Type 0} (R : A → B → Type 0) (xs : List A) (ys : List B) (x : A) (y : B) → AllZip R xs ys → R x y
    → AllZip R (xs ++ x ∷ []) (ys ++ y ∷ [])
zip_push R [] [] x y h r = (r, h)
zip_push R [] (b ∷ ys) x y h r = absurd h
zip_push R (a ∷ xs) [] x y h r = absurd h
zip_push R (a ∷ xs) (b ∷ ys) x y h r = (h.0, zip_push R xs ys x y h.1 r)

-- one more stands for the next
pub zip_next : {A B : Type 0} (R : A → B → Type 0) (xs : List A) (ys : List B) (i : ℕ) (d : A) (y : B) → i < length xs
    → AllZip R (take i xs) ys → R (get_or xs i d) y → AllZip R (take (i + 1) xs) (ys ++ y ∷ [])
zip_next R xs ys i d y within h r = subst (λ zs. AllZip R zs (ys ++ y ∷ [])) (sym (take_more xs i d within))
    (zip_push R (take i xs) ys (get_or xs i d) y h r)

-- the same of an element that stands there
pub zip_item : {A B : Type 0} (R : A → B → Type 0) (xs : List A) (ys : List B) (i : ℕ) (x : A) (y : B) → i < length xs
    → x ≡ get_or xs i x → AllZip R (take i xs) ys → R x y → AllZip R (take (i + 1) xs) (ys ++ y ∷ [])
zip_item R xs ys i x y within is h r = zip_next R xs ys i x y within h (subst (λ z. R z y) is r)

-- what holds of each that stands for another
pub zip_all : {A B : Type 0} (R : A → B → Type 0) (P : B → Type 0) → ((x : A) (y : B) → R x y → P y) → (xs : List A) (ys : List B)
    → AllZip R xs ys → All P ys
zip_all R P each [] [] h = All-nil P
zip_all R P each [] (y ∷ ys) h = absurd h
zip_all R P each (x ∷ xs) [] h = absurd h
zip_all R P each (x ∷ xs) (y ∷ ys) h = All-cons P y ys (each x y h.0) (zip_all R P each xs ys h.1)
