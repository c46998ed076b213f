-- What is gathered of the parts of a list, one after the other.
use Rattle.std.proofs.Common.{◌≡◌, ◌++◌, ◌∙◌, ◌∷◌, [], ℕ, zero, suc, List, Some, ap, append_assoc, flat_map, length, map, refl, slice_get, sym, take}
use Rattle.std.proofs.lemmas.List.{append-nil}

some_same : {X : Type 0} (one other : X) → Some one ≡ Some other → one ≡ other
some_same one other same = cc

pub take_all : {X : Type 0} (xs : List X) → take (length xs) xs ≡ xs
take_all [] = refl
take_all (x ∷ xs) = ap (λ (rest : List _). x ∷ rest) (take_all xs)

pub take_more : {X Y : Type 0} (f : X → List Y) (xs : List X) (n : ℕ) (x : X) → slice_get xs n ≡ Some x
    → flat_map f (take (suc n) xs) ≡ flat_map f (take n xs) ++ f x
take_more f [] n x is = absurd (cc)
take_more f (y ∷ xs) zero x is = append-nil (f y) ∙ ap f (some_same y x is)
take_more f (y ∷ xs) (suc n) x is =
    ap (λ (rest : List _). f y ++ rest) (take_more f xs n x is) ∙ sym (append_assoc (f y) (flat_map f (take n xs)) (f x))

-- the part of one more, behind those so far
pub part_more : {X Y : Type 0} (f : X → Y) (x : X) (all rest after : List X) (done more : List Y) → done ++ map f rest ≡ map f all
    → rest ≡ x ∷ after → more ≡ done ++ f x ∷ [] → more ++ map f after ≡ map f all
part_more f x all rest after done more so_far is one =
    ap (λ (ys : List _). ys ++ map f after) one ∙ (append_assoc done (f x ∷ []) (map f after)
    ∙ (sym (ap (λ (xs : List _). done ++ map f xs) is) ∙ so_far))

-- there are no more
pub no_part : {X Y : Type 0} (f : X → Y) (all rest : List X) (done : List Y) → done ++ map f rest ≡ map f all → length rest ≡ 0
    → done ≡ map f all
no_part f all [] done so_far none = sym (append-nil done) ∙ so_far
no_part f all (x ∷ rest) done so_far none = absurd (cc)
