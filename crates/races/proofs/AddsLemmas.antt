-- Lists that are in order, and grow at their ends.
use Rattle.std.proofs.Common.{◌≡◌, ◌⊎◌, ◌++◌, ◌∷◌, [], inl, inr, AllPairs, Contains, List, get_or, subst}
use Rattle.std.proofs.lemmas.List.Elements.{Contains-append_left, Contains-get_or, Contains-push, Contains-push_cases}
use Rattle.std.proofs.lemmas.List.Quantifiers.{all_pairs_push}
use Rattle.races.specs.Lists.{AddsInOrder}

module _ {A : Type 0} (Before : A → A → Type 0) where
  -- nothing is added
  pub adds_none : {These : A → Type 0} (xs : List A) → AllPairs Before xs → ((x : A) → These x → ⊥) → AddsInOrder Before xs xs These
  adds_none xs order none = record { kept = λ x h. h; added = λ x these. absurd (none x these); each = λ x h. inl h; order = order }

  -- the same, said otherwise
  pub adds_same : {These Those : A → Type 0} {old new : List A} → AddsInOrder Before old new These
      → ((x : A) → These x → Those x) → ((x : A) → Those x → These x) → AddsInOrder Before old new Those
  adds_same adds there back = record {
    kept = adds.kept;
    added = λ x those. adds.added x (back x those);
    each = λ x h. elim (adds.each x h) [ inl was ↦ inl was | inr these ↦ inr (there x these) ];
    order = adds.order;
  }

  -- one more at the end, which all others come before
  pub adds_one : {These : A → Type 0} {old : List A} (xs : List A) (y : A) → AddsInOrder Before old xs These → ((x : A) → Contains xs x → Before x y)
      → AddsInOrder Before old (xs ++ y ∷ []) (λ x. These x ⊎ (y ≡ x))
  adds_one xs y adds before = record {
    kept = λ x h. Contains-append_left xs (y ∷ []) x (adds.kept x h);
    added = λ x h. elim h [
      | inl these ↦ Contains-append_left xs (y ∷ []) x (adds.added x these)
      | inr same ↦ subst (Contains (xs ++ y ∷ [])) same (Contains-push xs y)
    ];
    each = λ x h. elim (Contains-push_cases xs y x h) [
      | inl was ↦ elim (adds.each x was) [ inl old ↦ inl old | inr these ↦ inr (inl these) ]
      | inr same ↦ inr (inr same)
    ];
    order = all_pairs_push Before xs y adds.order (λ k d lt. before (get_or xs k d) (Contains-get_or xs k d lt));
  }

  -- some, and then others
  pub adds_both : {These Those : A → Type 0} {old next new : List A} → AddsInOrder Before old next These → AddsInOrder Before next new Those
      → AddsInOrder Before old new (λ x. These x ⊎ Those x)
  adds_both these those = record {
    kept = λ x h. those.kept x (these.kept x h);
    added = λ x h. elim h [ inl p ↦ those.kept x (these.added x p) | inr p ↦ those.added x p ];
    each = λ x h. elim (those.each x h) [
      | inl was ↦ elim (these.each x was) [ inl old ↦ inl old | inr p ↦ inr (inl p) ]
      | inr p ↦ inr (inr p)
    ];
    order = those.order;
  }
