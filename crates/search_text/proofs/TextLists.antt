-- Texts that are listed once each.
use Rattle.std.proofs.Common.{◌≡◌, ◌++◌, ◌∷◌, ◌∙◌, ◌||◌, ℕ, List, [], Bool, true, false, ap, flat_map, fold, refl, sym}
use Rattle.std.specs.List.{list_any}
use Rattle.std.proofs.lemmas.Cmp.{nat_list_eq_equiv}
use Rattle.std.proofs.lemmas.List.Folds.{list_any-append}
use Rattle.std.proofs.lemmas.List.Sums.{fold-append}
use Rattle.std.proofs.lemmas.Map.Steps.{list_any_congr}
use Rattle.report_text.specs.Groups.{first_seen, is_text, seen_too}

-- what is or, by its two sides
pub or_false : (b : Bool) → (b || false) ≡ b
or_false true = refl
or_false false = refl

pub or_true : (b : Bool) → (b || true) ≡ true
or_true true = refl
or_true false = refl

or_assoc : (a b c : Bool) → ((a || b) || c) ≡ (a || (b || c))
or_assoc true b c = refl
or_assoc false b c = refl

pub left_of : (a b : Bool) → (a || b) ≡ false → a ≡ false
left_of true b e = e
left_of false b e = refl

pub right_of : (a b : Bool) → (a || b) ≡ false → b ≡ false
right_of true b e = cc
right_of false b e = e

-- a text is among some and one more
pub any_more : (text : List ℕ) (before : List (List ℕ)) (last : List ℕ)
    → list_any (is_text text) (before ++ last ∷ []) ≡ (list_any (is_text text) before || is_text text last)
any_more text before last =
    list_any-append (is_text text) before (last ∷ []) ∙ ap (λ b. list_any (is_text text) before || b) (or_false (is_text text last))

-- equal texts are among the same
pub any_same : (text other : List ℕ) (all : List (List ℕ)) → is_text text other ≡ true
    → list_any (is_text text) all ≡ list_any (is_text other) all
any_same text other all e = list_any_congr nat_list_eq_equiv text other all e

pub any_seen_too : (text : List ℕ) (before : List (List ℕ)) (last : List ℕ)
    → list_any (is_text text) (seen_too before last) ≡ (list_any (is_text text) before || is_text text last)
any_seen_too text before last = by (list_any (is_text last) before) refl (is_text text last) refl
  where
    by : (c : Bool) → list_any (is_text last) before ≡ c → (b : Bool) → is_text text last ≡ b
        → list_any (is_text text) (seen_too before last) ≡ (list_any (is_text text) before || is_text text last)
    by true p true q = rw (p, q) (any_same text last before q ∙ p ∙ sym (or_true (list_any (is_text text) before)))
    by true p false q = rw (p, q) (sym (or_false (list_any (is_text text) before)))
    by false p b q = rw p (any_more text before last)

pub any_fold : (text : List ℕ) (before texts : List (List ℕ))
    → list_any (is_text text) (fold seen_too before texts) ≡ (list_any (is_text text) before || list_any (is_text text) texts)
any_fold text before [] = sym (or_false (list_any (is_text text) before))
any_fold text before (next ∷ texts) =
    any_fold text (seen_too before next) texts
    ∙ ap (λ b. b || list_any (is_text text) texts) (any_seen_too text before next)
    ∙ or_assoc (list_any (is_text text) before) (is_text text next) (list_any (is_text text) texts)

-- each text once in the order in which they are first met, of which some were before
pub fold_first : (before some texts : List (List ℕ))
    → fold seen_too before (fold seen_too some texts) ≡ fold seen_too (fold seen_too before some) texts
fold_first before some [] = refl
fold_first before some (text ∷ texts) =
    fold_first before (seen_too some text) texts ∙ ap (λ ts. fold seen_too ts texts) (by (list_any (is_text text) some) refl)
  where
    by : (c : Bool) → list_any (is_text text) some ≡ c
        → fold seen_too before (seen_too some text) ≡ seen_too (fold seen_too before some) text
    by true p =
        let there : list_any (is_text text) (fold seen_too before some) ≡ true =
        any_fold text before some ∙ ap (λ b. list_any (is_text text) before || b) p ∙ or_true (list_any (is_text text) before) in
        rw (p, there)
    by false p = rw p (fold-append seen_too before some (text ∷ []))

-- no text is among those behind it
abbrev pub AreDistinct : List (List ℕ) → Type 0
AreDistinct [] = Unit {0}
AreDistinct (text ∷ texts) = (list_any (is_text text) texts ≡ false) × AreDistinct texts

distinct_more : (texts : List (List ℕ)) (last : List ℕ) → AreDistinct texts → list_any (is_text last) texts ≡ false
    → AreDistinct (texts ++ last ∷ [])
distinct_more [] last h new = (refl, tt)
distinct_more (text ∷ texts) last h new =
    let other : is_text text last ≡ false =
    nat_list_eq_equiv.symm text last ∙ left_of (is_text last text) (list_any (is_text last) texts) new in (
      any_more text texts last ∙ ap (λ b. b || is_text text last) h.0 ∙ other,
      distinct_more texts last h.1 (right_of (is_text last text) (list_any (is_text last) texts) new),
    )

distinct_seen_too : (texts : List (List ℕ)) (last : List ℕ) → AreDistinct texts → AreDistinct (seen_too texts last)
distinct_seen_too texts last h = by (list_any (is_text last) texts) refl
  where
    by : (c : Bool) → list_any (is_text last) texts ≡ c → AreDistinct (seen_too texts last)
    by true p = rw p h
    by false p = rw p (distinct_more texts last h p)

pub distinct_fold : (before texts : List (List ℕ)) → AreDistinct before → AreDistinct (fold seen_too before texts)
distinct_fold before [] h = h
distinct_fold before (text ∷ texts) h = distinct_fold (seen_too before text) texts (distinct_seen_too before text h)

-- a text is not among those before it either
pub not_before : (before : List (List ℕ)) (text : List ℕ) (later : List (List ℕ)) → AreDistinct (before ++ text ∷ later)
    → list_any (is_text text) before ≡ false
not_before [] text later h = refl
not_before (first ∷ before) text later h =
    let behind : (list_any (is_text first) before || (is_text first text || list_any (is_text first) later)) ≡ false =
    sym (list_any-append (is_text first) before (text ∷ later)) ∙ h.0 in
    let other : is_text text first ≡ false = nat_list_eq_equiv.symm text first
    ∙ left_of (is_text first text) (list_any (is_text first) later)
    (right_of (list_any (is_text first) before) (is_text first text || list_any (is_text first) later) behind) in
    ap (λ b. b || list_any (is_text text) before) other ∙ not_before before text later h.1

-- a text is among those of some item
pub any_flat : {X : Type 0} (of : X → List (List ℕ)) (text : List ℕ) (items : List X)
    → list_any (λ item. list_any (is_text text) (of item)) items ≡ list_any (is_text text) (flat_map of items)
any_flat of text [] = refl
any_flat of text (item ∷ items) =
    ap (λ b. list_any (is_text text) (of item) || b) (any_flat of text items)
    ∙ sym (list_any-append (is_text text) (of item) (flat_map of items))
