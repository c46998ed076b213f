-- Counts by key that agree at each key of either.
use Rattle.std.proofs.Common.{◌≡◌, ◌∷◌, ◌∙◌, ◌↔◌, ℕ, List, [], Bool, true, false, cond, Option, Some, None, ap, refl, subst, sym, unwrap_or, true≢false}
use Rattle.std.specs.Prelude.{All, IsTrue}
use Rattle.std.specs.Cmp.{IsEquivalence}
use Rattle.std.specs.List.{AllByRecursion, IsDistinct}
use Rattle.std.specs.Map.{keys_of, lookup}
use Rattle.std.specs.HashMap.Eq.{lookup_congr}
use Rattle.std.proofs.lemmas.List.Elements.{All-cons, All-head, All-nil, All-tail, All-from_recursion}
use Rattle.std.proofs.lemmas.Map.Keys.{IsDistinct-head, IsDistinct-tail}

-- what is asked of all of a list is asked of what is left of it
pub at_start : {X : Type 0} (P : X → Type 0) (whole left : List X) → left ≡ whole → All P whole ↔ All P left
at_start P whole left e = (λ all. subst (All P) (sym e) all, λ all. subst (All P) e all)

pub one_less : {X A : Type 0} (P : X → Type 0) (left rest : List X) (x : X) → A ↔ All P left → left ≡ x ∷ rest → P x → A ↔ All P rest
one_less P left rest x h e p = (
  λ a. All-tail P x rest (subst (All P) e (h.0 a)),
  λ all. h.1 (subst (All P) (sym e) (All-cons P x rest p all)),
)

pub one_fails : {X A : Type 0} (P : X → Type 0) (left rest : List X) (x : X) → A ↔ All P left → left ≡ x ∷ rest → ¬ P x → IsTrue false ↔ A
one_fails P left rest x h e not = (
  λ t. absurd (true≢false (sym t)),
  λ a. absurd (not (All-head P x rest (subst (All P) e (h.0 a)))),
)

pub none_left : {X A : Type 0} (P : X → Type 0) (left : List X) → A ↔ All P left → left ≡ [] → IsTrue true ↔ A
none_left P left h e = (λ t. h.1 (subst (All P) (sym e) (All-nil P)), λ a. refl)

module _ {K : Type 0} (same : K → K → Bool) (laws : IsEquivalence same) where
  -- how often entries count a key
  abbrev pub counted : List (K × ℕ) → K → ℕ
  counted entries key = unwrap_or (lookup (same key) entries) 0

  counted_congr : (entries : List (K × ℕ)) (key other : K) → same key other ≡ true → counted entries key ≡ counted entries other
  counted_congr entries key other e = ap (λ o. unwrap_or o 0) (lookup_congr same laws.congr entries key other e)

  -- a count that is found is the other's, where each entry's is
  found_is : (others entries : List (K × ℕ)) (key : K) (count : ℕ) → All (λ entry. entry.1 ≡ counted others entry.0) entries
      → lookup (same key) entries ≡ Some count → count ≡ counted others key
  found_is others [] key count all e = absurd cc
  found_is others (entry ∷ entries) key count all e = by (same key entry.0) refl e
      (found_is others entries key count (All-tail (λ (entry : K × ℕ). entry.1 ≡ counted others entry.0) entry entries all))
    where
      by : (b : Bool) → same key entry.0 ≡ b → cond b (Some entry.1) (lookup (same key) entries) ≡ Some count
          → (lookup (same key) entries ≡ Some count → count ≡ counted others key) → count ≡ counted others key
      by true p f later =
          let here = All-head (λ (entry : K × ℕ). entry.1 ≡ counted others entry.0) entry entries all in
          let there = counted_congr others key entry.0 p in
          cc
      by false p f later = later f

  -- two that each have the other's counts count alike
  pub alike : (mine others : List (K × ℕ)) → All (λ entry. entry.1 ≡ counted others entry.0) mine
      → All (λ entry. entry.1 ≡ counted mine entry.0) others → (key : K) → counted mine key ≡ counted others key
  alike mine others h k key = by (lookup (same key) mine) refl (lookup (same key) others) refl
    where
      by : (m : Option ℕ) → lookup (same key) mine ≡ m → (o : Option ℕ) → lookup (same key) others ≡ o
          → counted mine key ≡ counted others key
      by (Some n) p o q = ap (λ r. unwrap_or r 0) p ∙ found_is others mine key n h p
      by None p (Some n) q = sym (ap (λ r. unwrap_or r 0) q ∙ found_is mine others key n k q)
      by None p None q = ap (λ r. unwrap_or r 0) p ∙ sym (ap (λ r. unwrap_or r 0) q)

  -- an entry of distinct keys is found behind one of another key
  skipped : (entry other : K × ℕ) (entries : List (K × ℕ)) → same entry.0 other.0 ≡ false
      → counted (entry ∷ entries) other.0 ≡ counted entries other.0
  skipped entry other entries e = ap (λ b. unwrap_or (cond b (Some entry.1) (lookup (same other.0) entries)) 0) (laws.symm other.0 entry.0 ∙ e)

  -- the counts of later entries are those of all
  all_behind : (entry : K × ℕ) (entries later : List (K × ℕ)) → AllByRecursion (λ key. same entry.0 key ≡ false) (keys_of later)
      → AllByRecursion (λ other. other.1 ≡ counted entries other.0) later
      → AllByRecursion (λ other. other.1 ≡ counted (entry ∷ entries) other.0) later
  all_behind entry entries [] apart h = tt
  all_behind entry entries (other ∷ later) apart h =
      (h.0 ∙ sym (skipped entry other entries apart.0), all_behind entry entries later apart.1 h.1)

  own_counts : (entries : List (K × ℕ)) → IsDistinct same (keys_of entries) → AllByRecursion (λ entry. entry.1 ≡ counted entries entry.0) entries
  own_counts [] distinct = tt
  own_counts (entry ∷ entries) distinct = (
    sym (ap (λ b. unwrap_or (cond b (Some entry.1) (lookup (same entry.0) entries)) 0) (laws.refl entry.0)),
    all_behind entry entries entries (IsDistinct-head same entry.0 (keys_of entries) distinct)
        (own_counts entries (IsDistinct-tail same entry.0 (keys_of entries) distinct)),
  )

  others_counts : (mine others later : List (K × ℕ)) → ((key : K) → counted mine key ≡ counted others key)
      → AllByRecursion (λ entry. entry.1 ≡ counted mine entry.0) later → AllByRecursion (λ entry. entry.1 ≡ counted others entry.0) later
  others_counts mine others [] same_count h = tt
  others_counts mine others (entry ∷ later) same_count h = (h.0 ∙ same_count entry.0, others_counts mine others later same_count h.1)

  -- each of distinct entries has the count of another that counts alike
  pub each_has : (mine others : List (K × ℕ)) → IsDistinct same (keys_of mine) → ((key : K) → counted mine key ≡ counted others key)
      → All (λ entry. entry.1 ≡ counted others entry.0) mine
  each_has mine others distinct same_count = All-from_recursion (λ (entry : K × ℕ). entry.1 ≡ counted others entry.0) mine
      (others_counts mine others mine same_count (own_counts mine distinct))
