-- A loop in a loop repeats so often as both together, and a loop of one turn repeats nothing.
use Rattle.std.proofs.Common.{◌≡◌, ◌∙◌, ◌*◌, List, ℕ, [], ◌∷◌, ap, arith, map, refl}
use Rattle.std.proofs.Math.Nat.{mul_assoc}
use Rattle.litmus_semantics.specs.TextSites.{repeated}
use Rattle.litmus_semantics.specs.declared.site.Site.{Site}

pub repeated_twice : (t u : ℕ) (xs : List Site) → map (repeated (t * u)) xs ≡ map (repeated t) (map (repeated u) xs)
repeated_twice t u [] = refl
repeated_twice t u (x ∷ xs) =
    let times : t * u * x.times ≡ t * (u * x.times) = mul_assoc t u x.times in
    let head : repeated (t * u) x ≡ repeated t (repeated u x) = ap (λ (n : ℕ). record x { times = n }) times in
    ap (λ (y : Site). y ∷ map (repeated (t * u)) xs) head ∙ ap (λ (ys : List Site). repeated t (repeated u x) ∷ ys) (repeated_twice t u xs)

pub repeated_once : (xs : List Site) → map (repeated 1) xs ≡ xs
repeated_once [] = refl
repeated_once (x ∷ xs) =
    let times : 1 * x.times ≡ x.times = omega arith in
    let head : repeated 1 x ≡ x = ap (λ (n : ℕ). record x { times = n }) times in
    ap (λ (y : Site). y ∷ map (repeated 1) xs) head ∙ ap (λ (ys : List Site). x ∷ ys) (repeated_once xs)
