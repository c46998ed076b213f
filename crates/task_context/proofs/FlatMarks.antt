-- One mark more, and whether the last flat mark is then a begin.
use Rattle.std.proofs.Common.{◌≡◌, ◌++◌, ◌⊎◌, ◌∙◌, List, [], ◌∷◌, false, count_by, refl, ap, arith}
use Rattle.std.proofs.Common.{inl, inr, append_assoc}
use Rattle.access_types.specs.Marked.{IsFlatOpen, is_flat}
use Rattle.access_types.specs.declared.history.Mark.{Mark}
use Rattle.access_types.specs.declared.history.Mark.TheVariants.{FlatBegin, FlatEnd}
use Rattle.task_context.proofs.Surpluses.{one-false, count_by-last}

-- a list that ends with m, split at x: x is the end, or it stands before the end
record IsEnd (earlier xs later : List Mark) (x m : Mark) : Type 0 where
  nothing : later ≡ []
  same : x ≡ m
  rest : earlier ≡ xs

record IsBeforeEnd (earlier xs later : List Mark) (x m : Mark) : Type 0 where
  between : List Mark
  ends : later ≡ between ++ m ∷ []
  rest : xs ≡ earlier ++ x ∷ between

split_last : (earlier xs later : List Mark) (x m : Mark) → xs ++ m ∷ [] ≡ earlier ++ x ∷ later
    → IsEnd earlier xs later x m ⊎ IsBeforeEnd earlier xs later x m
split_last [] [] later x m e = inl record { nothing = cc; same = cc; rest = refl }
split_last [] (y ∷ xs) later x m e = inr record { between = xs; ends = cc; rest = cc }
split_last (z ∷ []) [] later x m e = cc
split_last (z ∷ (w ∷ earlier)) [] later x m e = cc
split_last (z ∷ earlier) (y ∷ xs) later x m e =
    elim (split_last earlier xs later x m (cc)) [
      | inl end ↦ inl record
          { nothing = end.nothing; same = end.same; rest = let rest = end.rest in cc }
      | inr before ↦ inr record
          { between = before.between; ends = before.ends; rest = let rest = before.rest in cc }
    ]

no_split : (earlier : List Mark) (m : Mark) (later : List Mark) → ¬ ([] ≡ earlier ++ m ∷ later)
no_split [] m later e = cc
no_split (x ∷ earlier) m later e = cc

-- no marks, no flat region
pub flat-nil : ¬ IsFlatOpen []
flat-nil region = no_split region.earlier FlatBegin region.later region.split

-- a begin opens a flat region
pub IsFlatOpen-begin : (xs : List Mark) → IsFlatOpen (xs ++ FlatBegin ∷ [])
IsFlatOpen-begin xs = record { earlier = xs; later = []; split = refl; last = refl }

-- an end closes it
pub flat-end : (xs : List Mark) → ¬ IsFlatOpen (xs ++ FlatEnd ∷ [])
flat-end xs region =
    elim (split_last region.earlier xs region.later FlatBegin FlatEnd region.split) [
      | inl end ↦ let same = end.same in cc
      | inr before ↦ let last = region.last in
          let more = count_by-last is_flat before.between FlatEnd in
          omega (arith, ap (count_by is_flat) before.ends)
    ]

-- another mark leaves it
pub IsFlatOpen-other : (xs : List Mark) (m : Mark) → is_flat m ≡ false → IsFlatOpen xs
    → IsFlatOpen (xs ++ m ∷ [])
IsFlatOpen-other xs m other region = record {
  earlier = region.earlier;
  later = region.later ++ m ∷ [];
  split =
      ap (λ ys. ys ++ m ∷ []) region.split
      ∙ append_assoc region.earlier (FlatBegin ∷ region.later) (m ∷ []);
  last =
      let last = region.last in let more = count_by-last is_flat region.later m in
      let quiet = one-false is_flat m other in omega arith;
}

pub other-IsFlatOpen : (xs : List Mark) (m : Mark) → is_flat m ≡ false → IsFlatOpen (xs ++ m ∷ [])
    → IsFlatOpen xs
other-IsFlatOpen xs m other region =
    elim (split_last region.earlier xs region.later FlatBegin m region.split) [
      | inl end ↦ let flat = ap is_flat end.same in cc
      | inr before ↦ record {
        earlier = region.earlier;
        later = before.between;
        split = before.rest;
        last = let last = region.last in let more = count_by-last is_flat before.between m in
            omega (arith, ap (count_by is_flat) before.ends);
      }
    ]
