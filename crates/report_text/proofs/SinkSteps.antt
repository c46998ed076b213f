-- What calls that write one text after the other leave.
use Rattle.std.proofs.Common.{◌≡◌, ◌+◌, ◌<◌, ◌++◌, ◌∷◌, ◌∙◌, drop, get_or, ℕ, List, [], Option, Some, None, append_assoc, ap, append-nil, arith, length, length-append, refl, suc, sym, take, subst}
use Rattle.std.proofs.lemmas.List.{take-append-le}
use Rattle.std.proofs.Math.Seq.{drop-cons, take-append-add}
use Rattle.std.proofs.lemmas.Grind.{flat_map-append}
use Rattle.std.proofs.lemmas.List.{take-append-drop}
use Rattle.std.specs.List.{flat_map}
use Rattle.std.specs.Result.{IsErr, is_err}
use Rattle.std.specs.Prelude.{Result, Ok, Err, false}
use Rattle.report_text.specs.Sink.{CountsFailure, FailsWithin, Takes, Writes, appended}

-- two texts in a row are one
pub appended-appended : (before : Option (List ℕ)) (first second : List ℕ)
    → appended (appended before first) second ≡ appended before (first ++ second)
appended-appended None first second = refl
appended-appended (Some before) first second =
    ap (λ text. Some text) (append_assoc before first second)

pub appended-nil : (before : Option (List ℕ)) → appended before [] ≡ before
appended-nil None = refl
appended-nil (Some before) = ap (λ text. Some text) (append-nil before)

module _ {S : Type 0} (written : S → Option (List ℕ)) (failures : S → ℕ) where
  -- nothing is written
  pub takes_nothing : (s : S) → Takes written failures [] s s
  takes_nothing s = record { holds = sym (appended-nil (written s)); works = refl }

  -- one text and then another
  pub takes_both : (first second : List ℕ) (a b c : S) → Takes written failures first a b
      → Takes written failures second b c → Takes written failures (first ++ second) a c
  takes_both first second a b c h k = record {
    holds = k.holds ∙ ap (λ w. appended w second) h.holds ∙ appended-appended (written a) first second;
    works = k.works ∙ h.works;
  }

  -- it failed within the first text
  pub fails_first : (first second : List ℕ) (a b : S) → FailsWithin written failures first a b
      → FailsWithin written failures (first ++ second) a b
  fails_first first second a b h = record {
    begun = record {
      count = h.begun.count;
      within = omega (arith, length-append first second, h.begun.within);
      holds = h.begun.holds ∙ ap (λ t. appended (written a) t)
          (sym (take-append-le h.begun.count first second h.begun.within));
    };
    counted = h.counted;
  }

  -- it failed within the second text
  pub fails_second : (first second : List ℕ) (a b c : S) → Takes written failures first a b
      → FailsWithin written failures second b c → FailsWithin written failures (first ++ second) a c
  fails_second first second a b c h k = record {
    begun = record {
      count = length first + k.begun.count;
      within = omega (arith, length-append first second, k.begun.within);
      holds = k.begun.holds ∙ ap (λ w. appended w (take k.begun.count second)) h.holds
          ∙ appended-appended (written a) first (take k.begun.count second)
          ∙ ap (λ t. appended (written a) t) (sym (take-append-add first second k.begun.count));
    };
    counted = subst (λ n. CountsFailure n (failures c)) h.works k.counted;
  }

  -- at the exit of a `?`
  pub writes_error : {E : Type 0} (text : List ℕ) (r : Result (Unit {0}) E) (a b : S)
      → IsErr r → FailsWithin written failures text a b → Writes written failures r text a b
  writes_error text (Ok x) a b h k = cc
  writes_error text (Err e) a b h k = k

  -- a text that is this one too
  pub writes_same : {E : Type 0} (first second : List ℕ) (r : Result (Unit {0}) E) (a b : S)
      → first ≡ second → Writes written failures r first a b → Writes written failures r second a b
  writes_same first second r a b e h = subst (λ t. Writes written failures r t a b) e h

  -- after one text, what the call for the rest leaves
  pub writes_after : {E : Type 0} (first second : List ℕ) (r : Result (Unit {0}) E) (a b c : S)
      → Takes written failures first a b → Writes written failures r second b c
      → Writes written failures r (first ++ second) a c
  writes_after first second (Ok x) a b c h k = takes_both first second a b c h k
  writes_after first second (Err e) a b c h k = fails_second first second a b c h k

  -- one item more
  pub takes_more : {X : Type 0} (f : X → List ℕ) (xs : List X) (x : X) (a b c : S)
      → Takes written failures (flat_map f xs) a b → Takes written failures (f x) b c
      → Takes written failures (flat_map f (xs ++ x ∷ [])) a c
  takes_more f xs x a b c h k = subst (λ t. Takes written failures t a c)
      (ap (λ t. flat_map f xs ++ t) (sym (append-nil (f x))) ∙ sym (flat_map-append f xs (x ∷ [])))
      (takes_both (flat_map f xs) (f x) a b c h k)

  -- it failed within one of the items
  pub fails_among : {X : Type 0} (f : X → List ℕ) (xs ys : List X) (x : X) (a b c : S)
      → Takes written failures (flat_map f xs) a b → FailsWithin written failures (f x) b c
      → FailsWithin written failures (flat_map f (xs ++ x ∷ ys)) a c
  fails_among f xs ys x a b c h k = subst (λ t. FailsWithin written failures t a c)
      (sym (flat_map-append f xs (x ∷ ys)))
      (fails_second (flat_map f xs) (f x ++ flat_map f ys) a b c h
      (fails_first (f x) (flat_map f ys) b c k))

  -- it failed at an item of a list
  pub fails_at : {X : Type 0} (f : X → List ℕ) (xs : List X) (i : ℕ) (d : X) (a b c : S) → i < length xs
      → Takes written failures (flat_map f (take i xs)) a b → FailsWithin written failures (f (get_or xs i d)) b c
      → FailsWithin written failures (flat_map f xs) a c
  fails_at f xs i d a b c within h k = subst (λ t. FailsWithin written failures (flat_map f t) a c)
      (ap (λ t. take i xs ++ t) (sym (drop-cons xs i d within)) ∙ take-append-drop i xs)
      (fails_among f (take i xs) (drop (suc i) xs) (get_or xs i d) a b c h k)

  -- the same of an item that stands there
  pub fails_item : {X : Type 0} (f : X → List ℕ) (xs : List X) (i : ℕ) (x : X) (a b c : S) → i < length xs
      → x ≡ get_or xs i x
      → Takes written failures (flat_map f (take i xs)) a b → FailsWithin written failures (f x) b c
      → FailsWithin written failures (flat_map f xs) a c
  fails_item f xs i x a b c within is h k = fails_at f xs i x a b c within h
      (subst (λ y. FailsWithin written failures (f y) b c) is k)

  -- a call without an error wrote the whole text
  pub takes_unless_error : {E : Type 0} (text : List ℕ) (r : Result (Unit {0}) E) (a b : S)
      → is_err r ≡ false → Writes written failures r text a b → Takes written failures text a b
  takes_unless_error text (Ok x) a b h k = k
  takes_unless_error text (Err e) a b h k = cc
