-- Two lists that agree at every index have the same meetings, in some order.
use Rattle.std.proofs.Common.{◌≡◌, inl, inr, ℕ, eqb, List, [], ◌∷◌, ◌++◌, refl, sym, ap, ◌∙◌}
use Rattle.std.proofs.lemmas.Bool.{eq-eqb}
use Rattle.std.proofs.lemmas.Bool.Decides.{eqb_tells}
use Rattle.std.proofs.lemmas.List.Elements.{filter-append}
use Rattle.std.proofs.lemmas.List.Sorted.{IsPermutation-cons, IsPermutation-middle}
use Rattle.std.proofs.lemmas.List.Sorted.{IsPermutation-refl, IsPermutation-sym}
use Rattle.std.proofs.lemmas.List.Sorted.{IsPermutation-trans}
use Rattle.std.specs.List.Sorted.{IsPermutation}
use Rattle.slot_table.specs.Meetings.{Meeting, meetings_at}

-- the first meeting at an index stands somewhere
record Split (index : ℕ) (first : Meeting) (rest all : List Meeting) : Type 0 where
  before : List Meeting
  after : List Meeting
  is : all ≡ before ++ first ∷ after
  none : meetings_at index before ≡ []
  others : meetings_at index after ≡ rest

split : (index : ℕ) (first : Meeting) (rest all : List Meeting)
    → meetings_at index all ≡ first ∷ rest → Split index first rest all
split index first rest [] e = absurd (cc)
split index first rest (met ∷ all) e = elim (eqb_tells met.index index) [
  | inl same ↦
      let begins : met ∷ meetings_at index all ≡ first ∷ rest = rw same.0 at e in
      let head : met ≡ first = cc in
      let tail : meetings_at index all ≡ rest = cc in
      record { before = []; after = all; is = rw head refl; none = refl; others = tail }
  | inr apart ↦
      let later : meetings_at index all ≡ first ∷ rest = rw apart.0 at e in
      let s = split index first rest all later in
      let is = ap (λ (l : List Meeting). met ∷ l) s.is in
      let none : meetings_at index (met ∷ s.before) ≡ [] = rw apart.0 s.none in
      record { before = met ∷ s.before; after = s.after; is = is; none = none; others = s.others }
]

-- the meetings at an index of two lists, one after the other
joined : (index : ℕ) (xs ys : List Meeting)
    → meetings_at index (xs ++ ys) ≡ meetings_at index xs ++ meetings_at index ys
joined index xs ys = filter-append (λ met. eqb met.index index) xs ys

-- without the first the lists still agree
agree_after : (first : Meeting) (xs ys : List Meeting)
    (s : Split first.index first (meetings_at first.index xs) ys)
    → ((index : ℕ) → meetings_at index (first ∷ xs) ≡ meetings_at index ys)
    → (index : ℕ) → meetings_at index xs ≡ meetings_at index (s.before ++ s.after)
agree_after first xs ys s agree index = elim (eqb_tells first.index index) [
  | inl same ↦
      let parts = joined first.index s.before s.after in
      let whole : meetings_at first.index (s.before ++ s.after) ≡ meetings_at first.index xs
      = parts ∙ (rw s.none s.others) in
      rw same.1 at (sym whole)
  | inr apart ↦
      let mine : meetings_at index xs ≡ meetings_at index ys = rw apart.0 at (agree index) in
      let one = ap (λ (l : List Meeting). meetings_at index l) s.is in
      let all = one ∙ joined index s.before (first ∷ s.after) in
      let two : meetings_at index ys ≡ meetings_at index s.before ++ meetings_at index s.after
      = rw apart.0 at all in
      mine ∙ (two ∙ sym (joined index s.before s.after))
]

pub permuted : (xs ys : List Meeting)
    → ((index : ℕ) → meetings_at index xs ≡ meetings_at index ys) → IsPermutation xs ys
permuted [] [] agree = IsPermutation-refl []
permuted [] (met ∷ ys) agree =
    let same = eq-eqb met.index met.index refl in
    let one : [] ≡ met ∷ meetings_at met.index ys = rw same at (agree met.index) in
    absurd (cc)
permuted (first ∷ xs) ys agree =
    let same = eq-eqb first.index first.index refl in
    let here : first ∷ meetings_at first.index xs ≡ meetings_at first.index ys
    = rw same at (agree first.index) in
    let s = split first.index first (meetings_at first.index xs) ys (sym here) in
    let others : List Meeting = s.before ++ s.after in
    let all : List Meeting = s.before ++ first ∷ s.after in
    let rest = permuted xs others (agree_after first xs ys s agree) in
    let moved = IsPermutation-middle s.before first s.after in
    let middle = IsPermutation-sym all (first ∷ others) moved in
    let begins = IsPermutation-cons first xs others rest in
    rw s.is (IsPermutation-trans (first ∷ xs) (first ∷ others) all begins middle)
