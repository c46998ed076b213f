-- Lists of lists that stand for elements, and what is joined of them.
use Rattle.std.proofs.Common.{◌≡◌, ◌∙◌, ◌+◌, ◌++◌, ◌<◌, ◌∷◌, [], ℕ, List, ap, arith, get_or, length, refl, sym, take}
use Rattle.std.specs.List.{AllZip}
use Rattle.std.proofs.lemmas.List.{append-nil, take_more}
use Rattle.std.proofs.lemmas.List.Concat.{flat_map-append}
use Rattle.node_search.specs.Beginnings.{joined}

-- one list more
pub joined_push : {X : Type 0} (lists : List (List X)) (last : List X) → joined (lists ++ last ∷ []) ≡ joined lists ++ last
joined_push {X = X} lists last =
    flat_map-append (λ (list : List X). list) lists (last ∷ []) ∙ ap (λ (l : List X). joined lists ++ l) (append-nil last)

-- a list of no length has no item
empty_of : {X : Type 0} (xs : List X) → length xs ≡ 0 → xs ≡ []
empty_of [] none = refl
empty_of (x ∷ xs) none = absurd (omega (arith, none))

-- where none is left, those that were taken are all
pub all_taken : {X : Type 0} (done rest all : List X) → done ++ rest ≡ all → length rest ≡ 0 → done ≡ all
all_taken {X = X} done rest all is none = sym (append-nil done) ∙ (ap (λ (xs : List X). done ++ xs) (sym (empty_of rest none)) ∙ is)

-- one element more of a list that is copied
pub copied_more : {X : Type 0} (xs : List X) (i : ℕ) (x : X) (before after : List X) → i < length xs → x ≡ get_or xs i x
    → after ≡ before ++ x ∷ [] → before ≡ take i xs → after ≡ take (i + 1) xs
copied_more {X = X} xs i x before after within is more so_far =
    more ∙ (ap (λ (t : List X). t ++ x ∷ []) so_far ∙ sym (take_more xs i x within ∙ ap (λ (y : X). take i xs ++ y ∷ []) (sym is)))

module _ {A B : Type 0} (R : A → B → Type 0) where
  -- what stands for the last element
  pub record Last (xs : List A) (ys : List B) (y : B) : Type 0 where
    pub before : List A
    pub last : A
    pub is : xs ≡ before ++ last ∷ []
    pub zip : AllZip R before ys
    pub of : R last y

  none_left : (xs : List A) → AllZip R xs [] → xs ≡ []
  none_left [] zip = refl
  none_left (x ∷ xs) zip = absurd zip

  pub last_of : (xs : List A) (ys : List B) (y : B) → AllZip R xs (ys ++ y ∷ []) → Last xs ys y
  last_of [] [] y zip = absurd zip
  last_of [] (first ∷ ys) y zip = absurd zip
  last_of (x ∷ xs) [] y zip = record {
    before = [];
    last = x;
    is = ap (λ (l : List A). x ∷ l) (none_left xs zip.1);
    zip = tt;
    of = zip.0;
  }
  last_of (x ∷ xs) (first ∷ ys) y zip =
      let later = last_of xs ys y zip.1 in
      record {
        before = x ∷ later.before;
        last = later.last;
        is = ap (λ (l : List A). x ∷ l) later.is;
        zip = (zip.0, later.zip);
        of = later.of;
      }
