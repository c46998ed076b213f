-- Elements of a list, and of another that is made of it.
use Rattle.std.proofs.Common.{◌≡◌, ◌∙◌, ◌<◌, List, ap, map, refl, subst, sym}
use Rattle.std.specs.Prelude.{All, Contains}
use Rattle.std.proofs.lemmas.List.{get_or-map, length-map}
use Rattle.std.proofs.lemmas.List.Elements.{All-contains, All-contains_itself, All-map, All-weaker}

pub contains_to : {X Y : Type 0} (f : X → Y) (xs : List X) (x : X) → Contains xs x → Contains (map f xs) (f x)
contains_to f xs x h = (h.0, subst (λ n. h.0 < n) (sym (length-map xs f)) h.1, get_or-map f xs h.0 x (f x) h.1 ∙ ap f h.2)

pub contains_from : {X Y : Type 0} (f : X → Y) (xs : List X) (y : Y) → Contains (map f xs) y → (x : X) × Contains xs x × (y ≡ f x)
contains_from {X} {Y} f xs y h = All-contains (λ (z : Y). (x : X) × Contains xs x × (z ≡ f x)) (map f xs) y
    (All-map (λ (z : Y). (x : X) × Contains xs x × (z ≡ f x)) f xs
    (All-weaker (Contains xs) (λ (w : X). (x : X) × Contains xs x × (f w ≡ f x)) (λ w c. (w, c, refl)) xs (All-contains_itself xs))) h

pub all_from : {X Y : Type 0} (P : Y → Type 0) (f : X → Y) (xs : List X) → All P (map f xs) → All (λ x. P (f x)) xs
all_from P f xs h k d within = subst P (get_or-map f xs k d (f d) within) (h k (f d) (subst (λ n. k < n) (sym (length-map xs f)) within))
