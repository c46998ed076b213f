-- What holds of each task.
use Rattle.std.proofs.Common.{◌≡◌, All, ℕ, zero, suc, List, [], ◌∷◌, None, Some, map, slice_get, subst}
use Rattle.std.proofs.lemmas.List.Elements.{All-head, All-tail}

-- what holds of each is true of the one of a number
pub of_each : {A B : Type 0} (view : A → B) (P : B → Type 0) (list : List A) (number : ℕ) (one : A) → All P (map view list)
    → slice_get list number ≡ Some one → P (view one)
of_each view P [] number one all there = absurd (let no : None ≡ Some one = there in cc)
of_each view P (first ∷ more) zero one all there =
    let same : first ≡ one = cc in subst (λ x. P (view x)) same (All-head P (view first) (map view more) all)
of_each view P (first ∷ more) (suc number) one all there = of_each view P more number one (All-tail P (view first) (map view more) all) there
