-- accesses by their tickets
use Rattle.std.proofs.Common.{◌≡◌, ◌≢◌, ◌∷◌, ◌++◌, ◌∙◌, inl, inr, ℕ, List, [], Bool, true, false, cond, Option, Some, None, ap, arith, refl}
use Rattle.std.specs.Prelude.{IsSome, MatchOption}
use Rattle.std.specs.BTreeMap.{is_at}
use Rattle.std.specs.Ordering.{nat_cmp}
use Rattle.std.proofs.lemmas.Bool.Decides.{nat_tests}
use Rattle.std.proofs.lemmas.List.Elements.{Contains-append_left, Contains-push, Contains-push_cases}
use Rattle.access_types.specs.Stamped.{Stamped}
use Rattle.access_types.specs.Ticket.{ticket_number}
use Rattle.trace_replay.specs.Accesses.{IsNamed}

-- what a look-up by the ticket says of the accesses
abbrev pub Says : List Stamped → ℕ → Option Stamped → Type 0
Says accesses ticket found = MatchOption found ((s : Stamped) → ¬ IsNamed accesses ticket s) (IsNamed accesses ticket)

-- where there is no access, none is named
pub none_named : (ticket : ℕ) (s : Stamped) → ¬ IsNamed [] ticket s
none_named ticket s h = let k = h.stands in omega (arith, k.1)

equal_at : (k q : ℕ) → is_at (nat_cmp k) q ≡ true → k ≡ q
equal_at k q h = grind (arith, nat_tests)

other_at : (k q : ℕ) → is_at (nat_cmp k) q ≡ false → k ≢ q
other_at k q h e = grind (arith, nat_tests)

still_said : (xs : List Stamped) (s : Stamped) (q : ℕ) (found : Option Stamped) → ticket_number s.access ≢ q → Says xs q found
    → Says (xs ++ s ∷ []) q found
still_said xs s q None other h = λ t is. elim (Contains-push_cases xs s t is.stands) [
  | inl stands ↦ h t (record { stands = stands; ticket_is = is.ticket_is })
  | inr same ↦ other (ap (λ (u : Stamped). ticket_number u.access) same ∙ is.ticket_is)
]
still_said xs s q (Some t) other h = record { stands = Contains-append_left xs (s ∷ []) t h.stands; ticket_is = h.ticket_is }

-- one access more stands by its ticket
pub one_more : (xs : List Stamped) (s : Stamped) (before after : ℕ → Option Stamped) → ((q : ℕ) → Says xs q (before q))
    → ((q : ℕ) → after q ≡ cond (is_at (nat_cmp (ticket_number s.access)) q) (Some s) (before q))
    → (q : ℕ) → Says (xs ++ s ∷ []) q (after q)
one_more xs s before after h set q = rw (set q) (by (is_at (nat_cmp (ticket_number s.access)) q) refl)
  where
    by : (b : Bool) → is_at (nat_cmp (ticket_number s.access)) q ≡ b → Says (xs ++ s ∷ []) q (cond b (Some s) (before q))
    by true p = record { stands = Contains-push xs s; ticket_is = equal_at (ticket_number s.access) q p }
    by false p = still_said xs s q (before q) (other_at (ticket_number s.access) q p) (h q)

-- what is named is found
pub is_found : (xs : List Stamped) (ticket : ℕ) (s : Stamped) (found : Option Stamped) → IsNamed xs ticket s → Says xs ticket found → IsSome found
is_found xs ticket s None is h = absurd (h s is)
is_found xs ticket s (Some t) is h = refl

pub found_is : (xs : List Stamped) (ticket : ℕ) (t : Stamped) (found : Option Stamped) → found ≡ Some t → Says xs ticket found → IsNamed xs ticket t
found_is xs ticket t found e h = rw e at h
