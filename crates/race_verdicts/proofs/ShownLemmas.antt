-- What was found of a pair, entry by entry.
use Rattle.std.proofs.Common.{◌≡◌, ◌<◌, ◌↔◌, ◌⊎◌, ◌∷◌, [], Bool, List, arith, false, inl, inr, subst, sym, true}
use Rattle.std.specs.Prelude.{Contains, IsTrue}
use Rattle.std.proofs.lemmas.List.Elements.{Contains-append_cases, Contains-append_left, Contains-append_right, Contains-push, Contains-push_cases}
use Rattle.indexmap.specs.IndexMap.{keys}
use Rattle.race_search.specs.Found.{IsPairFound}
use Rattle.race_search.specs.declared.at_once.AtOnce.{AtOnce}
use Rattle.race_search.specs.declared.at_once.Shown.{Shown}
use Rattle.races.specs.declared.pair.SitePair.{SitePair}

-- one of these is of the pair, of which this was decided
pub record IsAmong (all : List Shown) (pair : SitePair) (Holds : Shown → Type 0) : Type 0 where
  pub shown : Shown
  pub there : Contains all shown
  pub of_pair : shown.pair ≡ pair
  pub holds : Holds shown

module _ (pair : SitePair) (Holds : Shown → Type 0) where
  -- what was found is among the keys
  pub found_among : (found : AtOnce) → IsPairFound found pair Holds ↔ IsAmong (keys found.shown) pair Holds
  found_among found = (
    λ is. record { shown = is.shown; there = is.found; of_pair = is.of_pair; holds = is.holds },
    λ is. record { shown = is.shown; found = is.there; of_pair = is.of_pair; holds = is.holds },
  )

  pub none_among : ¬ IsAmong [] pair Holds
  none_among is = let no : is.there.0 < 0 = is.there.1 in omega (arith, no)

  either : (first : Shown) (rest : List Shown) (x : Shown) → Contains (first ∷ rest) x → (first ≡ x) ⊎ Contains rest x
  either first rest x there = elim (Contains-append_cases (first ∷ []) rest x there) [
    | inl here ↦ elim (Contains-push_cases [] first x here) [
      | inl none ↦ (let no : none.0 < 0 = none.1 in absurd (omega (arith, no)))
      | inr same ↦ inl same
    ]
    | inr later ↦ inr later
  ]

  -- among one more are itself, and what is among the others
  pub one_more : (first : Shown) (rest : List Shown) → IsAmong (first ∷ rest) pair Holds
      ↔ (((first.pair ≡ pair) × Holds first) ⊎ IsAmong rest pair Holds)
  one_more first rest = (
    λ is. elim (either first rest is.shown is.there) [
      | inl same ↦ inl (
        subst (λ (x : Shown). x.pair ≡ pair) (sym same) is.of_pair,
        subst Holds (sym same) is.holds,
      )
      | inr later ↦ inr (record { shown = is.shown; there = later; of_pair = is.of_pair; holds = is.holds })
    ],
    λ is. elim is [
      | inl first_is ↦ record {
        shown = first;
        there = Contains-append_left (first ∷ []) rest first (Contains-push [] first);
        of_pair = first_is.0;
        holds = first_is.1;
      }
      | inr later ↦ record {
        shown = later.shown;
        there = Contains-append_right (first ∷ []) rest later.shown later.there;
        of_pair = later.of_pair;
        holds = later.holds;
      }
    ],
  )

  -- One entry was looked at: it is of the pair, and was counted; or it isn't.
  module _ (All : Type 0) (was now : Bool) (first : Shown) (left rest : List Shown) (is : left ≡ first ∷ rest)
      (so_far : All ↔ (IsTrue was ⊎ IsAmong left pair Holds)) where
    before : All ↔ (IsTrue was ⊎ IsAmong (first ∷ rest) pair Holds)
    before = subst (λ (l : List Shown). All ↔ (IsTrue was ⊎ IsAmong l pair Holds)) is so_far

    pub counted : first.pair ≡ pair → (IsTrue now ↔ (IsTrue was ⊎ Holds first)) → All ↔ (IsTrue now ⊎ IsAmong rest pair Holds)
    counted of_pair now_is = (
      λ all. elim (before.0 all) [
        | inl said ↦ inl (now_is.1 (inl said))
        | inr among ↦ elim ((one_more first rest).0 among) [
          | inl here ↦ inl (now_is.1 (inr here.1))
          | inr later ↦ inr later
        ]
      ],
      λ some. elim some [
        | inl said ↦ elim (now_is.0 said) [
          | inl earlier ↦ before.1 (inl earlier)
          | inr here ↦ before.1 (inr ((one_more first rest).1 (inl (of_pair, here))))
        ]
        | inr later ↦ before.1 (inr ((one_more first rest).1 (inr later)))
      ],
    )

    pub skipped : ¬ (first.pair ≡ pair) → All ↔ (IsTrue was ⊎ IsAmong rest pair Holds)
    skipped other = (
      λ all. elim (before.0 all) [
        | inl said ↦ inl said
        | inr among ↦ elim ((one_more first rest).0 among) [
          | inl here ↦ absurd (other here.0)
          | inr later ↦ inr later
        ]
      ],
      λ some. elim some [
        | inl said ↦ before.1 (inl said)
        | inr later ↦ before.1 (inr ((one_more first rest).1 (inr later)))
      ],
    )

  -- none was looked at, or all were
  module _ (found : AtOnce) (left : List Shown) where
    pub at_first : left ≡ keys found.shown → IsPairFound found pair Holds ↔ (IsTrue false ⊎ IsAmong left pair Holds)
    at_first is = (
      λ all. inr (subst (λ (l : List Shown). IsAmong l pair Holds) (sym is) ((found_among found).0 all)),
      λ some. elim some [
        | inl said ↦ absurd (let no : false ≡ true = said in cc)
        | inr among ↦ (found_among found).1 (subst (λ (l : List Shown). IsAmong l pair Holds) is among)
      ],
    )

    pub at_last : (said : Bool) → left ≡ [] → (IsPairFound found pair Holds ↔ (IsTrue said ⊎ IsAmong left pair Holds))
        → IsTrue said ↔ IsPairFound found pair Holds
    at_last said none so_far = (
      λ is. so_far.1 (inl is),
      λ all. elim (so_far.0 all) [
        | inl is ↦ is
        | inr among ↦ absurd (none_among (subst (λ (l : List Shown). IsAmong l pair Holds) none among))
      ],
    )
