-- What a task did in parts that follow each other.
use Rattle.std.proofs.Common.{◌≡◌, ◌≢◌, ◌++◌, ◌-◌, ◌==◌, ℕ, zero, suc, Bool, true, false, List, [], ◌∷◌, ap, append_assoc, arith, refl, replicate, if◌then◌else◌}
use Rattle.std.proofs.lemmas.Bool.{eqb-true}
use Rattle.access_types.specs.declared.history.Happening.{Happening}
use Rattle.access_types.specs.declared.history.Happening.TheVariants as happenings
use Rattle.access_types.specs.declared.history.Mark.TheVariants as marks
use Rattle.litmus_semantics.specs.Loads.{in_data_races}
use Rattle.litmus_semantics.specs.Task.{Progress, doing}

-- two parts are one
pub doing_twice : (before : Progress) (first second : List Happening) → doing (doing before first) second ≡ doing before (first ++ second)
doing_twice before first second =
    ap (λ (did : List Happening). doing (record { did = []; registers = before.registers }) did) (append_assoc before.did first second)

-- one of so many, and the others after it
pub doing_more : (before : Progress) (each : Happening) (count : ℕ) → count ≢ 0
    → doing (doing before (each ∷ [])) (replicate (count - 1) each) ≡ doing before (replicate count each)
doing_more before each zero some = absurd (some refl)
doing_more before each (suc count) some =
    let one : suc count - 1 ≡ count = omega arith in
    rw one (doing_twice before (each ∷ []) (replicate count each))

-- marks before and after what is done in data_race( )
pub doing_silently : (before : Progress) (count : ℕ) (does : List Happening)
    → doing (doing (doing before (replicate count (happenings.Mark marks.Disable))) does) (replicate count (happenings.Mark marks.Enable))
    ≡ doing before (in_data_races count does)
doing_silently before count does =
    let all : ((before.did ++ replicate count (happenings.Mark marks.Disable)) ++ does) ++ replicate count (happenings.Mark marks.Enable)
    ≡ before.did ++ in_data_races count does = simp append_assoc in
    ap (λ (did : List Happening). doing (record { did = []; registers = before.registers }) did) all

-- once where it holds
pub once_if : (holds : Bool) (each : Happening) → replicate (if holds then 1 else 0) each ≡ (if holds then each ∷ [] else [])
once_if true each = refl
once_if false each = refl

pub is_some : (size : ℕ) → size ≢ 0 → (size == 0) ≡ false
is_some size some = not_same (size == 0) refl where
  not_same : (same : Bool) → (size == 0) ≡ same → same ≡ false
  not_same true e = absurd (some (eqb-true size 0 e))
  not_same false e = refl
