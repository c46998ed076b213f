-- Accesses by their tickets, and their stamps.
use Rattle.std.proofs.Common.{◌≡◌, ◌≢◌, ◌∷◌, ◌++◌, ◌∙◌, ◌==◌, ◌||◌, ◌+◌, ◌⊎◌, inl, inr, ℕ, zero, suc, List}
use Rattle.std.proofs.Common.{[], Bool, true, false, cond, Bor, Option, Some, None, ap, arith, get_or, length, refl, subst, sym, true≢false, unwrap_or}
use Rattle.std.specs.Prelude.{All, Contains, nat_eq, slice_get}
use Rattle.std.specs.List.{list_any}
use Rattle.std.specs.Option.{option_copied}
use Rattle.std.specs.Slice.{IsItemAt}
use Rattle.std.proofs.lemmas.Bool.{eqb-false, eqb-true, ne_eqb}
use Rattle.std.proofs.lemmas.List.Elements.{All-contains, All-contains_itself, All-weaker}
use Rattle.std.proofs.lemmas.List.Folds.{list_any-append, list_any_at, list_any_none}
use Rattle.std.proofs.lemmas.Option.{get_or_from_slice_get, slice_get-get_or, slice_get_past, slice_get_read, slice_get_within}
use Rattle.std.specs.Cmp.{nat_eq_equiv}
use Rattle.access_types.specs.Stamped.{Stamped}
use Rattle.access_types.specs.Ticket.{ticket_number}
use Rattle.report_text.specs.Standing.{HaveOtherStamps}
use Rattle.trace_replay.specs.Accesses.{ArePlaces, IsNamed, has_stamp}
use Rattle.trace_replay.specs.Table.{value_at}
use Rattle.trace_replay.specs.declared.table.Table.{Table}

-- ---- by ticket

-- what stands at a place stands there behind one more, and at its end that one stands
at_place : {X : Type 0} (xs : List X) (x : X) (i : ℕ) (y : X) → slice_get (xs ++ x ∷ []) i ≡ Some y
    → (slice_get xs i ≡ Some y) ⊎ ((i ≡ length xs) × (y ≡ x))
at_place [] x zero y e = inr (refl, ap (λ o. unwrap_or o y) (sym e))
at_place [] x (suc i) y e = absurd cc
at_place (z ∷ xs) x zero y e = inl e
at_place (z ∷ xs) x (suc i) y e = elim (at_place xs x i y e) [
  | inl h ↦ inl h
  | inr h ↦ inr (ap suc h.0, h.1)
]

still_at : {X : Type 0} (xs : List X) (x : X) (i : ℕ) (y : X) → slice_get xs i ≡ Some y → slice_get (xs ++ x ∷ []) i ≡ Some y
still_at [] x i y e = absurd cc
still_at (z ∷ xs) x zero y e = e
still_at (z ∷ xs) x (suc i) y e = still_at xs x i y e

at_end : {X : Type 0} (xs : List X) (x : X) → slice_get (xs ++ x ∷ []) (length xs) ≡ Some x
at_end [] x = refl
at_end (z ∷ xs) x = at_end xs x

stands_at : (all : List Stamped) (place : ℕ) (s : Stamped) → slice_get all place ≡ Some s → Contains all s
stands_at all place s e = (place, slice_get_within all place s e, get_or_from_slice_get all place s s e)

-- what a look-up by a place gives
pub got : {X : Type 0} (xs : List X) (i : ℕ) (found : Option (Bor X)) → IsItemAt xs i found → option_copied found ≡ slice_get xs i
got xs i None h = sym (slice_get_past xs i h.3)
got xs i (Some x) h = sym (slice_get_read xs (length xs) i x.now refl h.3.0 h.1)

module _ (all : List Stamped) (places : Table ℕ) (are : ArePlaces all places) where
  pub named_to : (ticket place : ℕ) (s : Stamped) → value_at places ticket ≡ place + 1 → slice_get all place ≡ Some s → IsNamed all ticket s
  named_to ticket place s v e =
      let found = are.only ticket place v in
      let same : found.0 ≡ s = ap (λ o. unwrap_or o s) (sym found.1 ∙ e) in
      record {
        stands = stands_at all place s e;
        ticket_is = ap (λ (t : Stamped). ticket_number t.access) (sym same) ∙ found.2;
      }

  pub named_from : (ticket : ℕ) (s : Stamped) → IsNamed all ticket s
      → (place : ℕ) × (value_at places ticket ≡ place + 1) × (slice_get all place ≡ Some s)
  named_from ticket s h =
      let e = slice_get-get_or all h.stands.0 s h.stands.1 ∙ ap Some h.stands.2 in
      (h.stands.0, subst (λ n. value_at places n ≡ h.stands.0 + 1) h.ticket_is (are.given h.stands.0 s e), e)

  -- no access has the ticket of this one, where no place is given by it
  pub fresh_to : (s : Stamped) → value_at places (ticket_number s.access) ≡ 0
      → All (λ t. ticket_number t.access ≢ ticket_number s.access) all
  fresh_to s e = All-weaker (Contains all) (λ t. ticket_number t.access ≢ ticket_number s.access)
      (λ t inside is. let f = named_from (ticket_number s.access) t (record { stands = inside; ticket_is = is }) in
      let v : value_at places (ticket_number s.access) ≡ f.0 + 1 = f.1 in absurd (omega (arith, v, e)))
      all (All-contains_itself all)

  pub fresh_from : (s : Stamped) → All (λ t. ticket_number t.access ≢ ticket_number s.access) all
      → value_at places (ticket_number s.access) ≡ 0
  fresh_from s h = by (value_at places (ticket_number s.access)) refl
    where
      by : (n : ℕ) → value_at places (ticket_number s.access) ≡ n → n ≡ 0
      by zero e = refl
      by (suc place) e =
          let found = are.only (ticket_number s.access) place (omega (arith, e)) in
          absurd (All-contains (λ t. ticket_number t.access ≢ ticket_number s.access) all found.0 h (stands_at all place found.0 found.1) found.2)

  -- one access more has the place behind all
  pub one_place_more : (s : Stamped) → All (λ t. ticket_number t.access ≢ ticket_number s.access) all → (new : Table ℕ)
      → ((other : ℕ) → value_at new other ≡ cond (nat_eq (ticket_number s.access) other) (length all + 1) (value_at places other))
      → ArePlaces (all ++ s ∷ []) new
  one_place_more s fresh new set = record { given = given_place; only = only_place }
    where
      given_place : (place : ℕ) (t : Stamped) → slice_get (all ++ s ∷ []) place ≡ Some t → value_at new (ticket_number t.access) ≡ place + 1
      given_place place t e = elim (at_place all s place t e) [
        | inl h ↦
            let other = ne_eqb (ticket_number s.access) (ticket_number t.access)
            (λ is. All-contains (λ u. ticket_number u.access ≢ ticket_number s.access) all t fresh (stands_at all place t h) (sym is)) in
            set (ticket_number t.access) ∙ rw other (are.given place t h)
        | inr h ↦
            let here = ap (λ (u : Stamped). ticket_number u.access) h.1 in
            let same = nat_eq_equiv.refl (ticket_number s.access) in
            set (ticket_number t.access) ∙ rw (here, same, h.0) refl
      ]

      by : (ticket place : ℕ) → (b : Bool) → nat_eq (ticket_number s.access) ticket ≡ b
          → cond b (length all + 1) (value_at places ticket) ≡ place + 1
          → (t : Stamped) × (slice_get (all ++ s ∷ []) place ≡ Some t) × (ticket_number t.access ≡ ticket)
      by ticket place true p e =
          let end : length all ≡ place = omega (arith, e) in
          (s, subst (λ n. slice_get (all ++ s ∷ []) n ≡ Some s) end (at_end all s), eqb-true (ticket_number s.access) ticket p)
      by ticket place false p e =
          let found = are.only ticket place e in
          (found.0, still_at all s place found.0 found.1, found.2)

      only_place : (ticket place : ℕ) → value_at new ticket ≡ place + 1
          → (t : Stamped) × (slice_get (all ++ s ∷ []) place ≡ Some t) × (ticket_number t.access ≡ ticket)
      only_place ticket place e = by ticket place (nat_eq (ticket_number s.access) ticket) refl (sym (set ticket) ∙ e)

-- ---- by stamp

-- a stamp is none of an access
stamp_is_other : (stamp : ℕ) (t : Stamped) → has_stamp stamp t ≡ false → (stamp ≢ t.begin) × (stamp ≢ t.end)
stamp_is_other stamp t e = by (stamp == t.begin) refl (stamp == t.end) refl e
  where
    by : (b : Bool) → (stamp == t.begin) ≡ b → (c : Bool) → (stamp == t.end) ≡ c → (b || c) ≡ false → (stamp ≢ t.begin) × (stamp ≢ t.end)
    by true p c q f = absurd (true≢false f)
    by false p true q f = absurd (true≢false f)
    by false p false q f = (eqb-false stamp t.begin p, eqb-false stamp t.end q)

other_stamp_is : (stamp : ℕ) (t : Stamped) → stamp ≢ t.begin → stamp ≢ t.end → has_stamp stamp t ≡ false
other_stamp_is stamp t b e = let p = ne_eqb stamp t.begin b in let q = ne_eqb stamp t.end e in rw (p, q)

none_has : (stamp : ℕ) (all : List Stamped) → list_any (has_stamp stamp) all ≡ false → All (λ t. has_stamp stamp t ≡ false) all
none_has stamp all e k d within = by _ refl
  where
    by : (b : Bool) → has_stamp stamp (get_or all k d) ≡ b → has_stamp stamp (get_or all k d) ≡ false
    by false p = p
    by true p = absurd (true≢false (sym (list_any_at (has_stamp stamp) all k d within p) ∙ e))

pub stamps_to : (all : List Stamped) (s : Stamped) → list_any (has_stamp s.begin) all ≡ false → list_any (has_stamp s.end) all ≡ false
    → All (HaveOtherStamps s) all
stamps_to all s b e k d within =
    let at_begin = stamp_is_other s.begin (get_or all k d) (none_has s.begin all b k d within) in
    let at_end = stamp_is_other s.end (get_or all k d) (none_has s.end all e k d within) in
    record { begins = at_begin.0; ends = at_end.1; begin_end = at_begin.1; end_begin = at_end.0 }

pub begin_from : (all : List Stamped) (s : Stamped) → All (HaveOtherStamps s) all → list_any (has_stamp s.begin) all ≡ false
begin_from all s h = list_any_none (has_stamp s.begin) all
    (All-weaker (HaveOtherStamps s) (λ t. has_stamp s.begin t ≡ false) (λ t o. other_stamp_is s.begin t o.begins o.begin_end) all h)

pub end_from : (all : List Stamped) (s : Stamped) → All (HaveOtherStamps s) all → list_any (has_stamp s.end) all ≡ false
end_from all s h = list_any_none (has_stamp s.end) all
    (All-weaker (HaveOtherStamps s) (λ t. has_stamp s.end t ≡ false) (λ t o. other_stamp_is s.end t o.end_begin o.ends) all h)

-- two stamps more
pub two_stamps_more : (old mid new : Table Bool) (all : List Stamped) (s : Stamped)
    → ((stamp : ℕ) → value_at old stamp ≡ list_any (has_stamp stamp) all)
    → ((stamp : ℕ) → value_at mid stamp ≡ cond (nat_eq s.begin stamp) true (value_at old stamp))
    → ((stamp : ℕ) → value_at new stamp ≡ cond (nat_eq s.end stamp) true (value_at mid stamp))
    → (stamp : ℕ) → value_at new stamp ≡ list_any (has_stamp stamp) (all ++ s ∷ [])
two_stamps_more old mid new all s h first next stamp =
    next stamp ∙ ap (cond (nat_eq s.end stamp) true) (first stamp ∙ ap (cond (nat_eq s.begin stamp) true) (h stamp))
    ∙ by (nat_eq s.end stamp) refl (nat_eq s.begin stamp) refl (list_any (has_stamp stamp) all) refl
  where
    by : (e : Bool) → nat_eq s.end stamp ≡ e → (b : Bool) → nat_eq s.begin stamp ≡ b
        → (a : Bool) → list_any (has_stamp stamp) all ≡ a
        → cond e true (cond b true a) ≡ list_any (has_stamp stamp) (all ++ s ∷ [])
    by true p true q true r = sym (list_any-append (has_stamp stamp) all (s ∷ []) ∙ rw r)
    by true p false q true r = sym (list_any-append (has_stamp stamp) all (s ∷ []) ∙ rw r)
    by false p true q true r = sym (list_any-append (has_stamp stamp) all (s ∷ []) ∙ rw r)
    by false p false q true r = sym (list_any-append (has_stamp stamp) all (s ∷ []) ∙ rw r)
    by true p true q false r =
        let b = nat_eq_equiv.symm stamp s.begin ∙ q in
        sym (list_any-append (has_stamp stamp) all (s ∷ []) ∙ rw (r, b))
    by true p false q false r =
        let e = nat_eq_equiv.symm stamp s.end ∙ p in let b = nat_eq_equiv.symm stamp s.begin ∙ q in
        sym (list_any-append (has_stamp stamp) all (s ∷ []) ∙ rw (r, b, e))
    by false p true q false r =
        let b = nat_eq_equiv.symm stamp s.begin ∙ q in
        sym (list_any-append (has_stamp stamp) all (s ∷ []) ∙ rw (r, b))
    by false p false q false r =
        let e = nat_eq_equiv.symm stamp s.end ∙ p in let b = nat_eq_equiv.symm stamp s.begin ∙ q in
        sym (list_any-append (has_stamp stamp) all (s ∷ []) ∙ rw (r, b, e))
