-- One pair more, and the pairs of one first site more.
use Rattle.std.proofs.Common.{◌≡◌, ◌<◌, ◌⊎◌, ◌∙◌, ◌+◌, ◌++◌, ◌∷◌, [], inl, inr, ℕ, AllPairs, Contains, List, Some, ap, arith, slice_get}
use Rattle.std.proofs.Common.{slice_index_or, subst, sym}
use Rattle.std.proofs.lemmas.Bool.{cases_lt}
use Rattle.std.proofs.lemmas.Option.{get_or_from_slice_get, same_Some, slice_get_within}
use Rattle.races.proofs.AddsLemmas.{adds_both, adds_one, adds_same}
use Rattle.races.specs.Lists.{AddsInOrder}
use Rattle.races.specs.Placed.{AreOfSitesBefore, ComesBefore, ConflictsWith, IsPairAmong, IsPairWith, PlacedBefore, StandsBefore, pair_of}
use Rattle.races.specs.declared.pair.SiteName.{SiteName}
use Rattle.races.specs.declared.pair.SitePair.{SitePair}
use Rattle.races.specs.declared.placed.PlacedSite.{PlacedSite}

-- pairs of sites that are in order
module _ (sites : List PlacedSite) (sorted : AllPairs PlacedBefore sites) where
  -- which of two sites comes first, and that a place has one site
  in_order : (i k : ℕ) (a b : PlacedSite) → slice_get sites i ≡ Some a → slice_get sites k ≡ Some b → i < k → PlacedBefore a b
  in_order i k a b is_a is_b lt =
      subst (λ (x : PlacedSite). PlacedBefore x b) (get_or_from_slice_get sites i a a is_a)
      (subst (λ (y : PlacedSite). PlacedBefore (slice_index_or sites i a) y) (get_or_from_slice_get sites k b a is_b)
      (sorted i k a lt (slice_get_within sites k b is_b)))

  one_site : (i k : ℕ) (a b : PlacedSite) → slice_get sites i ≡ Some a → slice_get sites k ≡ Some b → i ≡ k → a ≡ b
  one_site i k a b is_a is_b same = same_Some a b (sym is_a ∙ (ap (λ (n : ℕ). slice_get sites n) same ∙ is_b))

  module _ (first : PlacedSite) where
    -- a pair with a site at an earlier place
    abbrev AreWith : ℕ → SitePair → Type 0
    AreWith k pair = (of : IsPairWith first sites pair) × (of.place < k)

    -- the next site conflicts with the first one
    pub pair_more : (k : ℕ) (second : PlacedSite) (old xs : List SitePair) → slice_get sites k ≡ Some second
        → ConflictsWith first second → AreOfSitesBefore first old
        → AddsInOrder ComesBefore old xs (λ pair. (of : IsPairWith first sites pair) × (of.place < k))
        → AddsInOrder ComesBefore old (xs ++ pair_of first second ∷ []) (λ pair. (of : IsPairWith first sites pair) × (of.place < k + 1))
    pair_more k second old xs is conflicts earlier adds =
        adds_same ComesBefore (adds_one ComesBefore xs (pair_of first second) adds before) there back where
          before : (x : SitePair) → Contains xs x → ComesBefore x (pair_of first second)
          before x h = elim (adds.each x h) [
            | inl was ↦ inl (earlier x was)
            | inr p ↦ inr (
              ap (λ (q : SitePair). q.first) p.0.is,
              subst (λ (n : SiteName). StandsBefore n second.name) (sym (ap (λ (q : SitePair). q.second) p.0.is))
                  (in_order p.0.place k p.0.second second p.0.there is p.1),
            )
          ]

          there : (x : SitePair) → AreWith k x ⊎ (pair_of first second ≡ x) → AreWith (k + 1) x
          there x h = elim h [
            | inl p ↦ (p.0, omega (arith, p.1))
            | inr same ↦ (record { second = second; place = k; there = is; conflicts = conflicts; is = sym same }, omega arith)
          ]

          back : (x : SitePair) → AreWith (k + 1) x → AreWith k x ⊎ (pair_of first second ≡ x)
          back x p = elim (cases_lt p.0.place k) [
            | inl low ↦ inl (p.0, low)
            | inr high ↦ inr (sym (p.0.is ∙ ap (pair_of first) (one_site p.0.place k p.0.second second p.0.there is (omega (arith, p.1)))))
          ]

    -- it doesn't
    pub pair_skipped : (k : ℕ) (second : PlacedSite) (old xs : List SitePair) → slice_get sites k ≡ Some second
        → (ConflictsWith first second → ⊥)
        → AddsInOrder ComesBefore old xs (λ pair. (of : IsPairWith first sites pair) × (of.place < k))
        → AddsInOrder ComesBefore old xs (λ pair. (of : IsPairWith first sites pair) × (of.place < k + 1))
    pair_skipped k second old xs is apart adds = adds_same ComesBefore adds there back where
      there : (x : SitePair) → AreWith k x → AreWith (k + 1) x
      there x p = (p.0, omega (arith, p.1))

      back : (x : SitePair) → AreWith (k + 1) x → AreWith k x
      back x p = elim (cases_lt p.0.place k) [
        | inl low ↦ (p.0, low)
        | inr high ↦
            let one = one_site p.0.place k p.0.second second p.0.there is (omega (arith, p.1)) in
            absurd (apart (subst (ConflictsWith first) one p.0.conflicts))
      ]

  -- a pair whose first site stands at an earlier place
  abbrev AreAmong : ℕ → SitePair → Type 0
  AreAmong k pair = (of : IsPairAmong sites pair) × (of.place < k)

  -- the pairs of earlier first sites come before those of this one
  pub firsts_before : (k : ℕ) (first : PlacedSite) (xs : List SitePair) → slice_get sites k ≡ Some first
      → AddsInOrder ComesBefore [] xs (λ pair. (of : IsPairAmong sites pair) × (of.place < k)) → AreOfSitesBefore first xs
  firsts_before k first xs is adds x h = elim (adds.each x h) [
    | inl was ↦ absurd (omega (arith, was.1))
    | inr p ↦ subst (λ (n : SiteName). StandsBefore n first.name) (sym (ap (λ (q : SitePair). q.first) p.0.second.is))
        (in_order p.0.place k p.0.first first p.0.there is p.1)
  ]

  -- all pairs of one first site more
  pub first_more : (k : ℕ) (first : PlacedSite) (xs new : List SitePair) → slice_get sites k ≡ Some first
      → AddsInOrder ComesBefore [] xs (λ pair. (of : IsPairAmong sites pair) × (of.place < k))
      → AddsInOrder ComesBefore xs new (IsPairWith first sites)
      → AddsInOrder ComesBefore [] new (λ pair. (of : IsPairAmong sites pair) × (of.place < k + 1))
  first_more k first xs new is earlier adds =
      adds_same ComesBefore (adds_both ComesBefore earlier adds) there back where
        there : (x : SitePair) → AreAmong k x ⊎ IsPairWith first sites x → AreAmong (k + 1) x
        there x h = elim h [
          | inl p ↦ (p.0, omega (arith, p.1))
          | inr p ↦ (record { first = first; place = k; there = is; second = p }, omega arith)
        ]

        back : (x : SitePair) → AreAmong (k + 1) x → AreAmong k x ⊎ IsPairWith first sites x
        back x p = elim (cases_lt p.0.place k) [
          | inl low ↦ inl (p.0, low)
          | inr high ↦
              let one = one_site p.0.place k p.0.first first p.0.there is (omega (arith, p.1)) in
              inr (subst (λ (f : PlacedSite). IsPairWith f sites x) one p.0.second)
        ]
