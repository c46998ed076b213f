-- Accesses that a task has begun stay in progress through what ends only what it began.
use Rattle.std.proofs.Common.{◌≡◌, ◌∙◌, ◌+◌, ◌++◌, inl, inr, suc, List, [], ◌∷◌, ap, append_assoc, arith, length, subst, sym}
use Rattle.std.proofs.lemmas.List.{length-append}
use Rattle.access_types.specs.Access.{Access}
use Rattle.access_types.specs.declared.history.Happening.{Happening}
use Rattle.access_types.specs.declared.history.Happening.TheVariants as happenings
use Rattle.setup_access.specs.declared.begun.Begun.{Begun}
use Rattle.executions.proofs.execution.Intervals.{Has, IsNoEnd, IsOpen, IsPaired, has_either, has_first, has_last}

pub has_split : (xs : List Happening) (x : Happening) → Has xs x → (p : List Happening) × (q : List Happening) × (xs ≡ p ++ x ∷ q)
has_split [] x h = absurd h
has_split (y ∷ xs) x h = elim h [
  | inl here ↦ ([], xs, ap (λ (z : Happening). z ∷ xs) here)
  | inr more ↦ let it = has_split xs x more in (y ∷ it.0, it.1, ap (λ (l : List Happening). y ∷ l) it.2)
]

-- all of these are in progress
abbrev pub AllOpen : List Happening → List Begun → Type 0
AllOpen did [] = Unit {0}
AllOpen did (scope ∷ scopes) = IsOpen did scope.access × AllOpen did scopes

-- what a task does in all, by which each access begins once
module _ (all : List Happening)
    (once : (a : Access) (p q r t : List Happening) → all ≡ p ++ happenings.Begin a ∷ q → all ≡ r ++ happenings.Begin a ∷ t → p ≡ r) where
  -- it doesn't begin twice
  twice : (a : Access) (first second more : List Happening) → Has first (happenings.Begin a) → Has second (happenings.Begin a) → all ≡ (first ++ second) ++ more → ⊥
  twice a first second more one other is =
      let p = has_split first (happenings.Begin a) one in
      let q = has_split second (happenings.Begin a) other in
      let early : all ≡ p.0 ++ happenings.Begin a ∷ (p.1 ++ (second ++ more)) =
      is ∙ (append_assoc first second more ∙ (ap (λ (d : List Happening). d ++ (second ++ more)) p.2
      ∙ append_assoc p.0 (happenings.Begin a ∷ p.1) (second ++ more))) in
      let late : all ≡ (first ++ q.0) ++ happenings.Begin a ∷ (q.1 ++ more) =
      is ∙ (append_assoc first second more ∙ (ap (λ (d : List Happening). first ++ (d ++ more)) q.2
      ∙ (ap (λ (d : List Happening). first ++ d) (append_assoc q.0 (happenings.Begin a ∷ q.1) more)
      ∙ sym (append_assoc first q.0 (happenings.Begin a ∷ (q.1 ++ more)))))) in
      let same : length p.0 ≡ length (first ++ q.0) =
      ap (λ (d : List Happening). length d) (once a p.0 (p.1 ++ (second ++ more)) (first ++ q.0) (q.1 ++ more) early late) in
      let parts : length (first ++ q.0) ≡ length first + length q.0 = length-append first q.0 in
      let long : length first ≡ length p.0 + suc (length p.1) =
      ap (λ (d : List Happening). length d) p.2 ∙ length-append p.0 (happenings.Begin a ∷ p.1) in
      absurd (omega (arith, same, parts, long))

  -- an access that begins now is in progress
  pub opens_now : (a : Access) (before more : List Happening) → IsPaired before → all ≡ (before ++ happenings.Begin a ∷ []) ++ more
      → IsOpen (before ++ happenings.Begin a ∷ []) a
  opens_now a before more paired is = record {
    begun = has_last before (happenings.Begin a ∷ []) (happenings.Begin a) (inl refl_now);
    unended = λ ended. elim (has_either before (happenings.Begin a ∷ []) (happenings.End a) ended) [
      | inl early ↦ twice a before (happenings.Begin a ∷ []) more (paired a early) (inl refl_now) is
      | inr now ↦ elim now [
        | inl begins ↦ absurd (subst (λ (x : Happening). IsNoEnd x) begins tt)
        | inr none ↦ absurd none
      ]
    ];
  }
    where
      refl_now : happenings.Begin a ≡ happenings.Begin a
      refl_now = cc

  -- one that was in progress still is
  pub open_later : (a : Access) (before new more : List Happening) → IsOpen before a → IsPaired new → all ≡ (before ++ new) ++ more → IsOpen (before ++ new) a
  open_later a before new more goes paired is = record {
    begun = has_first before new (happenings.Begin a) goes.begun;
    unended = λ ended. elim (has_either before new (happenings.End a) ended) [
      | inl early ↦ goes.unended early
      | inr late ↦ twice a before new more goes.begun (paired a late) is
    ];
  }

  pub all_later : (scopes : List Begun) (before new more : List Happening) → AllOpen before scopes → IsPaired new → all ≡ (before ++ new) ++ more
      → AllOpen (before ++ new) scopes
  all_later [] before new more goes paired is = tt
  all_later (scope ∷ scopes) before new more goes paired is =
      (open_later scope.access before new more goes.0 paired is, all_later scopes before new more goes.1 paired is)

pub all_with : (did : List Happening) (scopes : List Begun) (last : Begun) → AllOpen did scopes → IsOpen did last.access → AllOpen did (scopes ++ last ∷ [])
all_with did [] last all goes = (goes, tt)
all_with did (scope ∷ scopes) last all goes = (all.0, all_with did scopes last all.1 goes)
