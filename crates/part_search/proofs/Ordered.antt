-- Parts that are put in order, one more at a time.
use Rattle.std.proofs.Common.{◌≡◌, ◌==◌, ◌∙◌, ◌+◌, ◌++◌, ◌<◌, ◌≤◌, ◌∷◌, [], ℕ, zero, suc, Bool, Contains, List, None, Option, Some, add-one, ap, arith, cond, false, get_or, length, map, not}
use Rattle.std.proofs.Common.{nat_lt, refl, subst, sym, true}
use Rattle.std.specs.Prelude.{IsTrue, ◌||◌, position}
use Rattle.std.specs.List.{list_any, position_or_len}
use Rattle.std.specs.List.Sorted.{IsPermutation}
use Rattle.std.proofs.lemmas.Bool.{eqb-true, ltb-false}
use Rattle.std.proofs.lemmas.List.{map-append}
use Rattle.std.proofs.lemmas.List.Folds.{list_any-append}
use Rattle.std.proofs.lemmas.List.Elements.{Contains-append_left}
use Rattle.std.proofs.lemmas.List.Sorted.{Contains-permutation, IsPermutation-pop_more, IsPermutation-sym, list_any-IsPermutation}
use Rattle.part_search.specs.part_file.Wholes.{has_number}
use Rattle.part_search.specs.Order.{AreInOrder, numbers_to}
use Rattle.part_search.specs.declared.part_file.part.Part.{Part}

-- an element passes the test, or none does up to the end
none_of : {X : Type 0} (p : X → Bool) (x : X) (xs : List X) (b : Bool) → p x ≡ b
    → (length xs ≤ position_or_len p xs → list_any p xs ≡ false)
    → length (x ∷ xs) ≤ position_or_len p (x ∷ xs) → list_any p (x ∷ xs) ≡ false
none_of p x xs true is later low =
    let none : suc (length xs) ≤ 0 = subst (λ (b : Bool). length (x ∷ xs) ≤ cond (not b) (1 + position_or_len p xs) 0) is low in
    absurd (omega (arith, none))
none_of p x xs false is later low =
    let more : suc (length xs) ≤ 1 + position_or_len p xs =
    subst (λ (b : Bool). length (x ∷ xs) ≤ cond (not b) (1 + position_or_len p xs) 0) is low in
    ap (λ (b : Bool). b || list_any p xs) is ∙ later (omega (arith, more))

none_before : {X : Type 0} (p : X → Bool) (xs : List X) → length xs ≤ position_or_len p xs → list_any p xs ≡ false
none_before p [] low = refl
none_before p (x ∷ xs) low = none_of p x xs (p x) refl (none_before p xs) low

place_none : (b : Bool) (place : ℕ) → cond b (Some place) None ≡ None → b ≡ false
place_none true place is = absurd (cc)
place_none false place is = refl

pub nowhere : {X : Type 0} (p : X → Bool) (xs : List X) → position p xs ≡ None → list_any p xs ≡ false
nowhere p xs is =
    let over = place_none (nat_lt (position_or_len p xs) (length xs)) (position_or_len p xs) is in
    none_before p xs (ltb-false (position_or_len p xs) (length xs) over)

-- no number is above the last
unlike : (a b : ℕ) (e : Bool) → (a == b) ≡ e → a < b → (a == b) ≡ false
unlike a b true is low = let same : a ≡ b = eqb-true a b is in absurd (omega (arith, same, low))
unlike a b false is low = is

numbers_above : (count number : ℕ) → count < number → list_any (λ n. n == number) (numbers_to count) ≡ false
numbers_above zero number above = refl
numbers_above (suc n) number above =
    let low : n + 1 < number = omega (arith, above) in
    list_any-append (λ m. m == number) (numbers_to n) ((n + 1) ∷ [])
    ∙ (ap (λ (b : Bool). b || ((n + 1 == number) || false)) (numbers_above n number (omega (arith, above)))
    ∙ ap (λ (b : Bool). b || false) (unlike (n + 1) number (n + 1 == number) refl low))

any_mapped : (number : ℕ) (parts : List Part) → has_number parts number ≡ list_any (λ n. n == number) (map (λ (part : Part). part.part) parts)
any_mapped number [] = refl
any_mapped number (part ∷ parts) = ap (λ (b : Bool). (part.part == number) || b) (any_mapped number parts)

none_above : (parts : List Part) (count : ℕ) → map (λ (part : Part). part.part) parts ≡ numbers_to count → (number : ℕ) → count < number
    → has_number parts number ≡ false
none_above parts count are number above =
    any_mapped number parts ∙ (ap (λ (all : List ℕ). list_any (λ n. n == number) all) are ∙ numbers_above count number above)

module _ (all done left : List Part) (count : ℕ) (numbers : map (λ (part : Part). part.part) done ≡ numbers_to count)
    (parts : IsPermutation all (done ++ left)) where
  -- one part more is in order
  pub one_more : (now rest : List Part) (part : Part) → now ≡ done ++ part ∷ [] → part.part ≡ count + 1 → IsPermutation left (part ∷ rest)
      → (map (λ (part : Part). part.part) now ≡ numbers_to (count + 1)) × IsPermutation all (now ++ rest)
  one_more now rest part is numbered taken = (
    ap (map (λ (part : Part). part.part)) is
        ∙ (map-append (λ (part : Part). part.part) done (part ∷ [])
        ∙ (ap (λ (ns : List ℕ). ns ++ part.part ∷ []) numbers
        ∙ (ap (λ (n : ℕ). numbers_to count ++ n ∷ []) numbered ∙ sym (ap numbers_to (add-one count))))),
    subst (λ (l : List Part). IsPermutation all (l ++ rest)) (sym is) (IsPermutation-pop_more all done left rest part parts taken),
  )

  -- the next number is that of a part that is left
  pub next_is_left : IsTrue (has_number all (count + 1)) → has_number left (count + 1) ≡ false → ⊥
  next_is_left has lacks =
      let p = λ (part : Part). part.part == count + 1 in
      let none : list_any p all ≡ false = list_any-IsPermutation p all (done ++ left) parts
      ∙ (list_any-append p done left
      ∙ (ap (λ (b : Bool). b || list_any p left) (none_above done count numbers (count + 1) (omega arith)) ∙ lacks)) in
      let bad : true ≡ false = sym has ∙ none in cc

  pub all_in_order : (last : ℕ) → count ≡ last → AreInOrder all last done
  all_in_order last is = record {
    numbers = numbers ∙ ap numbers_to is;
    each = λ part there. Contains-permutation (done ++ left) all part (IsPermutation-sym all (done ++ left) parts)
        (Contains-append_left done left part there);
  }
