-- Parts with which nothing is amiss, one more at a time.
use Rattle.std.proofs.Common.{◌≡◌, ◌+◌, ◌<◌, ◌∙◌, ℕ, List, Some, arith, get_or, inl, inr, length, refl, slice_get, subst, sym, take}
use Rattle.std.proofs.lemmas.Bool.{cases_lt}
use Rattle.std.proofs.lemmas.Option.{same_Some, slice_get_read}
use Rattle.part_search.specs.part_file.Wholes.{AreRight, IsRight}
use Rattle.part_search.specs.declared.part_file.part.Part.{Part}

pub right_more : (first : Part) (parts : List Part) (place : ℕ) (one : Part) → place < length parts → one ≡ get_or parts place one
    → IsRight first (take place parts) one → AreRight first parts place → AreRight first parts (place + 1)
right_more first parts place one within is right before = λ other part below here.
    elim (cases_lt other place) [
      | inl lower ↦ before other part lower here
      | inr above ↦
          let same : other ≡ place = omega arith in
          let stands : slice_get parts place ≡ Some one = slice_get_read parts (length parts) place one refl within is in
          let found : slice_get parts place ≡ Some part = subst (λ (n : ℕ). slice_get parts n ≡ Some part) same here in
          subst (λ (n : ℕ). IsRight first (take n parts) part) (sym same)
          (subst (λ (x : Part). IsRight first (take place parts) x) (same_Some one part (sym stands ∙ found)) right)
    ]
