-- The items of a list, one by one.
use Rattle.std.proofs.Common.{◌≡◌, ◌<◌, ◌+◌, ◌∙◌, Bor, List, None, Option, Some, ap, arith, get_or, inl, inr, length, map, slice_get, subst, ℕ}
use Rattle.std.proofs.lemmas.Bool.{cases_lt}
use Rattle.std.proofs.lemmas.List.{length-map}
use Rattle.std.proofs.lemmas.Option.{slice_get-get_or, slice_get-map, slice_get_within}
use Rattle.std.specs.Option.{option_map}

-- the texts, without where they lie in memory
abbrev pub texts_of : List (Bor (List ℕ)) → List (List ℕ)
texts_of refs = map (λ (text : Bor (List ℕ)). text.now) refs

-- the item at a place
pub item_at : (refs all : List (Bor (List ℕ))) (texts : List (List ℕ)) (k : ℕ) (d : Bor (List ℕ)) → refs ≡ all → texts_of all ≡ texts
    → k < length refs → slice_get texts k ≡ Some (get_or refs k d).now
item_at refs all texts k d same are within =
    subst (λ (ts : List (List ℕ)). slice_get ts k ≡ Some (get_or refs k d).now) (ap texts_of same ∙ are)
    (slice_get-map (λ (text : Bor (List ℕ)). text.now) refs k
    ∙ ap (option_map (λ (text : Bor (List ℕ)). text.now)) (slice_get-get_or refs k d within))

-- an item that stands there is one of them
pub stands_within : (refs all : List (Bor (List ℕ))) (texts : List (List ℕ)) (k : ℕ) (item : List ℕ) → refs ≡ all → texts_of all ≡ texts
    → slice_get texts k ≡ Some item → k < length refs
stands_within refs all texts k item same are stands =
    omega (arith, slice_get_within texts k item stands, ap length (ap texts_of same ∙ are), length-map refs (λ (text : Bor (List ℕ)). text.now))

-- what holds of the items before one, and of that, holds of those before the next
pub one_more : (P : List ℕ → Type 0) (texts : List (List ℕ)) (n : ℕ) (item : List ℕ) → slice_get texts n ≡ Some item → P item
    → ((k : ℕ) (other : List ℕ) → k < n → slice_get texts k ≡ Some other → P other)
    → (k : ℕ) (other : List ℕ) → k < n + 1 → slice_get texts k ≡ Some other → P other
one_more P texts n item stands holds before k other below there =
    elim (cases_lt k n) [
      | inl lt ↦ before k other lt there
      | inr ge ↦ let e : k ≡ n = omega arith in let same : item ≡ other = cc in subst P same holds
    ]

-- nothing is no value
pub nothing : {A B : Type 0} (f : A → B) (o : Option A) (y : B) → o ≡ None → option_map f o ≡ Some y → ⊥
nothing f None y p q = cc
nothing f (Some x) y p q = cc
