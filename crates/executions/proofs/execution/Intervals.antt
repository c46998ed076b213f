-- An access is in progress from the point on its task's way at which it begins up to that at which it ends.
use Rattle.std.proofs.Common.{◌≡◌, ◌⊎◌, ◌<◌, ◌≤◌, ◌+◌, ◌∙◌, ◌++◌, inl, inr, ℕ, zero, suc, Contains, List, [], ◌∷◌}
use Rattle.std.proofs.Common.{None, Option, Some, ap, append_assoc, arith, length, refl, replicate, subst, sym}
use Rattle.std.proofs.lemmas.Bool.{le-leb}
use Rattle.std.proofs.lemmas.Bool.Decides.{leb_tells}
use Rattle.std.proofs.lemmas.List.{length-append}
use Rattle.access_types.specs.Access.{Access}
use Rattle.access_types.specs.declared.history.Happening.{Happening}
use Rattle.access_types.specs.declared.history.Happening.TheVariants as happenings
use Rattle.access_types.specs.declared.history.Mark.{Mark}
use Rattle.access_run.specs.memory_operation.Effects.{moments_of, read_moments, write_moments}
use Rattle.access_run.specs.declared.memory_operation.effect.Effect.{Effect}
use Rattle.program_order.specs.Standing.{Point, point_by}
use Rattle.program_order.proofs.WayLemmas.{Begins}
use Rattle.executions.proofs.execution.DoneOnlyGrows.{Chain, by_last, by_later, last_of}

-- one of a list
abbrev pub Has : {X : Type 0} → List X → X → Type 0
Has [] x = ⊥
Has (y ∷ ys) x = (y ≡ x) ⊎ Has ys x

pub has_first : {X : Type 0} (xs ys : List X) (x : X) → Has xs x → Has (xs ++ ys) x
has_first [] ys x h = absurd h
has_first (y ∷ xs) ys x h = elim h [
  | inl here ↦ inl here
  | inr more ↦ inr (has_first xs ys x more)
]

pub has_last : {X : Type 0} (xs ys : List X) (x : X) → Has ys x → Has (xs ++ ys) x
has_last [] ys x h = h
has_last (y ∷ xs) ys x h = inr (has_last xs ys x h)

pub has_either : {X : Type 0} (xs ys : List X) (x : X) → Has (xs ++ ys) x → Has xs x ⊎ Has ys x
has_either [] ys x h = inr h
has_either (y ∷ xs) ys x h = elim h [
  | inl here ↦ inl (inl here)
  | inr more ↦ elim (has_either xs ys x more) [
    | inl first ↦ inl (inr first)
    | inr last ↦ inr last
  ]
]

pub contains_has : {X : Type 0} (xs : List X) (x : X) → Contains xs x → Has xs x
contains_has [] x h = let below : h.0 < 0 = h.1 in absurd (omega (arith, below))
contains_has (y ∷ xs) x (zero, below, is) = inl is
contains_has (y ∷ xs) x (suc k, below, is) =
    inr (contains_has xs x (k, let b : suc k < suc (length xs) = below in omega (arith, b), is))

pub has_contains : {X : Type 0} (xs : List X) (x : X) → Has xs x → Contains xs x
has_contains [] x h = absurd h
has_contains (y ∷ xs) x h = elim h [
  | inl here ↦ (0, omega arith, here)
  | inr more ↦ let it = has_contains xs x more in
      (suc it.0, let below : it.0 < length xs = it.1 in omega (arith, below), it.2)
]

has_split : (xs : List Happening) (x : Happening) → Has xs x
    → (p : List Happening) × (q : List Happening) × (xs ≡ p ++ x ∷ q)
has_split [] x h = absurd h
has_split (y ∷ xs) x h = elim h [
  | inl here ↦ ([], xs, ap (λ (z : Happening). z ∷ xs) here)
  | inr more ↦ let it = has_split xs x more in
      (y ∷ it.0, it.1, ap (λ (l : List Happening). y ∷ l) it.2)
]

-- the happening is no end of an access
abbrev pub IsNoEnd : Happening → Type 0
IsNoEnd (happenings.End a) = ⊥
IsNoEnd happening = Unit {0}

abbrev pub NoneEnds : List Happening → Type 0
NoneEnds [] = Unit {0}
NoneEnds (first ∷ did) = IsNoEnd first × NoneEnds did

-- each access that ends began among these
abbrev pub IsPaired : List Happening → Type 0
IsPaired did = (a : Access) → Has did (happenings.End a) → Has did (happenings.Begin a)

none_ended : (did : List Happening) (a : Access) → NoneEnds did → ¬ Has did (happenings.End a)
none_ended [] a none h = h
none_ended (first ∷ did) a none h = elim h [
  | inl here ↦ subst (λ (x : Happening). IsNoEnd x) here none.0
  | inr more ↦ none_ended did a none.1 more
]

pub paired_none : (did : List Happening) → NoneEnds did → IsPaired did
paired_none did none = λ a h. absurd (none_ended did a none h)

pub paired_both : (first second : List Happening) → IsPaired first → IsPaired second → IsPaired (first ++ second)
paired_both first second p q = λ a h. elim (has_either first second (happenings.End a) h) [
  | inl here ↦ has_first first second (happenings.Begin a) (p a here)
  | inr there ↦ has_last first second (happenings.Begin a) (q a there)
]

pub none_of_marks : (count : ℕ) (m : Mark) → NoneEnds (replicate count (happenings.Mark m))
none_of_marks zero m = tt
none_of_marks (suc count) m = (tt, none_of_marks count m)

none_of_both : (first second : List Happening) → NoneEnds first → NoneEnds second → NoneEnds (first ++ second)
none_of_both [] second p q = q
none_of_both (x ∷ first) second p q = (p.0, none_of_both first second p.1 q)

none_read : (a : Access) (value : Option ℕ) → NoneEnds (read_moments a value)
none_read a None = tt
none_read a (Some value) = (tt, tt)

none_written : (a : Access) (value : Option ℕ) → NoneEnds (write_moments a value)
none_written a None = tt
none_written a (Some value) = (tt, tt)

pub none_of_effect : (a : Access) (effect : Effect) → NoneEnds (moments_of a effect)
none_of_effect a effect =
    none_of_both (read_moments a effect.read) (write_moments a effect.written) (none_read a effect.read) (none_written a effect.written)

-- what an access did from its begin to its end
pub paired_access : (a : Access) (inside : List Happening) → IsPaired inside → IsPaired (happenings.Begin a ∷ (inside ++ happenings.End a ∷ []))
paired_access a inside paired = λ b h. elim h [
  | inl begins ↦ absurd (subst (λ (x : Happening). IsNoEnd x) begins tt)
  | inr more ↦ elim (has_either inside (happenings.End a ∷ []) (happenings.End b) more) [
    | inl within ↦ inr (has_first inside (happenings.End a ∷ []) (happenings.Begin b) (paired b within))
    | inr last ↦ elim last [
      | inl is ↦ let same : a ≡ b = cc in inl (ap (λ (x : Access). happenings.Begin x) same)
      | inr none ↦ absurd none
    ]
  ]
]

-- points at which so many records are to come, or more
abbrev pub AllFrom : ℕ → List Point → Type 0
AllFrom n [] = Unit {0}
AllFrom n (point ∷ points) = (n ≤ point.to_come) × AllFrom n points

pub from_fewer : (n m : ℕ) (points : List Point) → m ≤ n → AllFrom n points → AllFrom m points
from_fewer n m [] fewer all = tt
from_fewer n m (point ∷ points) fewer all =
    (let here : n ≤ point.to_come = all.0 in omega (arith, here, fewer), from_fewer n m points fewer all.1)

pub from_both : (n : ℕ) (first second : List Point) → AllFrom n first → AllFrom n second → AllFrom n (first ++ second)
from_both n [] second p q = q
from_both n (point ∷ first) second p q = (p.0, from_both n first second p.1 q)

chain_front : (last : Point) (front back : List Point) → Chain last (front ++ back) → Chain last front
chain_front last [] back chain = tt
chain_front last (point ∷ front) back chain = (chain.0, chain_front point front back chain.1)

chain_back : (last : Point) (front back : List Point) → Chain last (front ++ back) → Chain (last_of last front) back
chain_back last [] back chain = chain
chain_back last (point ∷ front) back chain = chain_back point front back chain.1

-- points early enough are passed
passed : (n : ℕ) (last : Point) (front back : List Point) → AllFrom n front
    → point_by n last (front ++ back) ≡ point_by n (last_of last front) back
passed n last [] back all = refl
passed n last (point ∷ front) back all = rw (le-leb n point.to_come all.0) (passed n point front back all.1)

-- one that comes too late isn't reached
unreached : (n : ℕ) (last : Point) (front : List Point) (late : Point) (back : List Point) → late.to_come < n
    → point_by n last (front ++ late ∷ back) ≡ point_by n last front
unreached n last [] late back too = elim (leb_tells n late.to_come) [
  | inl more ↦ let fits : n ≤ late.to_come = more.1 in absurd (omega (arith, fits, too))
  | inr there ↦ rw there.0 refl
]
unreached n last (point ∷ front) late back too = elim (leb_tells n point.to_come) [
  | inl more ↦ rw more.0 (unreached n point front late back too)
  | inr there ↦ rw there.0 refl
]

-- of what was done the access has begun, and not ended
pub record IsOpen (did : List Happening) (a : Access) : Type 0 where
  pub begun : Has did (happenings.Begin a)
  pub unended : ¬ Has did (happenings.End a)

has_more : (first all : List Happening) (x : Happening) → Begins first all → Has first x → Has all x
has_more first all x begins h = subst (λ (d : List Happening). Has d x) (sym begins.1) (has_first first begins.0 x h)

-- what a task did in all, by which each access begins once
module _ (all : List Happening)
    (once : (a : Access) (p q r t : List Happening) → all ≡ p ++ happenings.Begin a ∷ q → all ≡ r ++ happenings.Begin a ∷ t → p ≡ r) where
  -- it doesn't begin twice
  twice : (a : Access) (p q t : List Happening) → all ≡ p ++ happenings.Begin a ∷ (q ++ happenings.Begin a ∷ t) → ⊥
  twice a p q t is =
      let longer : List Happening = p ++ happenings.Begin a ∷ q in
      let other : all ≡ longer ++ happenings.Begin a ∷ t = is ∙ sym (append_assoc p (happenings.Begin a ∷ q) (happenings.Begin a ∷ t)) in
      let same : p ≡ longer = once a p (q ++ happenings.Begin a ∷ t) longer t is other in
      let long : length p ≡ length longer = ap (λ (d : List Happening). length d) same in
      let parts : length longer ≡ length p + suc (length q) = length-append p (happenings.Begin a ∷ q) in
      absurd (omega (arith, long, parts))

  not_ended : (a : Access) (before new more : List Happening) → IsPaired before → IsPaired new
      → all ≡ before ++ happenings.Begin a ∷ (new ++ more) → ¬ Has (before ++ happenings.Begin a ∷ new) (happenings.End a)
  not_ended a before new more paired inner is h = elim (has_either before (happenings.Begin a ∷ new) (happenings.End a) h) [
    | inl early ↦
        let it = has_split before (happenings.Begin a) (paired a early) in
        twice a it.0 it.1 (new ++ more)
        (is ∙ (ap (λ (d : List Happening). d ++ happenings.Begin a ∷ (new ++ more)) it.2
        ∙ append_assoc it.0 (happenings.Begin a ∷ it.1) (happenings.Begin a ∷ (new ++ more))))
    | inr here ↦ elim here [
      | inl begins ↦ subst (λ (x : Happening). IsNoEnd x) begins tt
      | inr within ↦
          let it = has_split new (happenings.Begin a) (inner a within) in
          twice a before it.0 (it.1 ++ more)
          (is ∙ ap (λ (d : List Happening). before ++ happenings.Begin a ∷ d)
          (ap (λ (d : List Happening). d ++ more) it.2 ∙ append_assoc it.0 (happenings.Begin a ∷ it.1) more))
    ]
  ]

  -- on a way on which the access begins with the last of the early points, and ends with one that is too late
  pub open_from : (a : Access) (first : Point) (way early between later : List Point) (late : Point) (n : ℕ) (before new more : List Happening)
      → Chain first way → way ≡ (early ++ between) ++ late ∷ later → AllFrom n early → late.to_come < n
      → (last_of first early).progress.did ≡ before ++ happenings.Begin a ∷ []
      → (last_of first (early ++ between)).progress.did ≡ before ++ happenings.Begin a ∷ new
      → IsPaired before → IsPaired new → all ≡ before ++ happenings.Begin a ∷ (new ++ more)
      → IsOpen (point_by n first way).progress.did a
  open_from a first way early between later late n before new more chain is from too began stood paired inner all_is =
      let whole : Chain first ((early ++ between) ++ late ∷ later) = subst (λ (w : List Point). Chain first w) is chain in
      let split : (early ++ between) ++ late ∷ later ≡ early ++ (between ++ late ∷ later) = append_assoc early between (late ∷ later) in
      let parted : Chain first (early ++ (between ++ late ∷ later)) = subst (λ (w : List Point). Chain first w) split whole in
      let past : point_by n first way ≡ point_by n (last_of first early) (between ++ late ∷ later) =
      ap (λ (w : List Point). point_by n first w) (is ∙ split) ∙ passed n first early (between ++ late ∷ later) from in
      let stops : point_by n first way ≡ point_by n first (early ++ between) =
      ap (λ (w : List Point). point_by n first w) is ∙ unreached n first (early ++ between) late later too in
      let from_begin : Begins (before ++ happenings.Begin a ∷ []) (point_by n first way).progress.did =
      subst (λ (d : List Happening). Begins d (point_by n first way).progress.did) began
      (subst (λ (p : Point). Begins (last_of first early).progress.did p.progress.did) (sym past)
      (by_later (last_of first early) (between ++ late ∷ later) n (chain_back first early (between ++ late ∷ later) parted))) in
      let to_end : Begins (point_by n first way).progress.did (before ++ happenings.Begin a ∷ new) =
      subst (λ (d : List Happening). Begins (point_by n first way).progress.did d) stood
      (subst (λ (p : Point). Begins p.progress.did (last_of first (early ++ between)).progress.did) (sym stops)
      (by_last first (early ++ between) n (chain_front first (early ++ between) (late ∷ later) whole))) in
      record {
        begun = has_more (before ++ happenings.Begin a ∷ []) (point_by n first way).progress.did (happenings.Begin a) from_begin
            (has_last before (happenings.Begin a ∷ []) (happenings.Begin a) (inl refl));
        unended = λ h. not_ended a before new more paired inner all_is
            (has_more (point_by n first way).progress.did (before ++ happenings.Begin a ∷ new) (happenings.End a) to_end h);
      }
