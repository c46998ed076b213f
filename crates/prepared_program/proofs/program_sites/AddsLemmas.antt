-- Accesses that are added one after the other, each under a ticket that wasn't there.
use Rattle.std.proofs.Common.{◌≡◌, ◌≢◌, ◌<◌, ◌≤◌, ◌⊎◌, ◌∙◌, ◌==◌, ◌+◌, ℕ, Bool, false, List, Option, None, Some, ap, arith, cond, inl, inr, length, slice_get, subst, sym, refl}
use Rattle.std.proofs.lemmas.Bool.{cases_lt, eq-eqb}
use Rattle.std.proofs.lemmas.Bool.Decides.{eqb_tells}
use Rattle.std.proofs.lemmas.Option.{none-some, same_Some, slice_get_within}
use Rattle.std.specs.Cmp.{nat_cmp_total, unsigned_tied}
use Rattle.std.specs.FinMap as map
use Rattle.std.specs.FinMap.{get-insert}
use Rattle.access_types.specs.Access.{Access}
use Rattle.access_types.specs.Sites.{AccessMap}
use Rattle.access_types.specs.Ticket.{ticket_number}
use Rattle.litmus_semantics.specs.TextSites.{FitsTickets, access_at}
use Rattle.litmus_semantics.specs.declared.site.Site.{Site}
use Rattle.prepared_program.specs.program_sites.Added.{Adds, AllBelow, IsAt, IsRepetition, first_ticket}

-- what stands under a ticket after an access was put under it, and under another
got_same : (m : AccessMap) (k : ℕ) (v : Access) (q : ℕ) → q ≡ k → map.get (map.insert m k v) q ≡ Some v
got_same m k v q is =
    get-insert nat_cmp_total m k v q
    ∙ ap (λ (b : Bool). cond b (Some v) (map.get m q)) (unsigned_tied q k ∙ eq-eqb q k is)

got_other : (m : AccessMap) (k : ℕ) (v : Access) (q : ℕ) → q ≢ k → map.get (map.insert m k v) q ≡ map.get m q
got_other m k v q apart =
    get-insert nat_cmp_total m k v q
    ∙ ap (λ (b : Bool). cond b (Some v) (map.get m q)) (unsigned_tied q k ∙ different) where
      different : (q == k) ≡ false
      different = elim (eqb_tells q k) [ inl p ↦ absurd (apart p.1) | inr p ↦ p.0 ]

-- one access is added under its ticket, where there was none
pub adds_one : (m : AccessMap) (a : Access) → map.get m (ticket_number a) ≡ None
    → Adds m (map.insert m (ticket_number a) a) (λ b. b ≡ a)
adds_one m a free = record {
  kept = λ ticket b is. elim (eqb_tells ticket (ticket_number a)) [
    | inl p ↦ absurd (none-some b (sym free ∙ (ap (λ (t : ℕ). map.get m t) (sym p.1) ∙ is)))
    | inr p ↦ got_other m (ticket_number a) a ticket p.1 ∙ is
  ];
  added = λ b is. got_same m (ticket_number a) a (ticket_number b) (ap ticket_number is) ∙ ap Some (sym is);
  each = λ ticket b is. elim (eqb_tells ticket (ticket_number a)) [
    | inl p ↦ let same : b ≡ a = same_Some b a (sym is ∙ got_same m (ticket_number a) a ticket p.1) in
        inr (same, ap ticket_number same ∙ sym p.1)
    | inr p ↦ inl (sym (got_other m (ticket_number a) a ticket p.1) ∙ is)
  ];
}

-- nothing is added
pub adds_none : {P : Access → Type 0} (m : AccessMap) → ((a : Access) → P a → ⊥) → Adds m m P
adds_none m none = record {
  kept = λ ticket a is. is;
  added = λ a p. absurd (none a p);
  each = λ ticket a is. inl is;
}

-- some are added, and then others
pub adds_both : {P Q R : Access → Type 0} {first next last : AccessMap} → Adds first next P → Adds next last Q
    → ((a : Access) → P a → R a) → ((a : Access) → Q a → R a) → ((a : Access) → R a → P a ⊎ Q a) → Adds first last R
adds_both p q of_first of_last one = record {
  kept = λ ticket a is. q.kept ticket a (p.kept ticket a is);
  added = λ a r. elim (one a r) [ inl x ↦ q.kept (ticket_number a) a (p.added a x) | inr x ↦ q.added a x ];
  each = λ ticket a is. elim (q.each ticket a is) [
    | inl was ↦ elim (p.each ticket a was) [ inl before ↦ inl before | inr x ↦ inr (of_first a x.0, x.1) ]
    | inr x ↦ inr (of_last a x.0, x.1)
  ];
}

-- the same accesses, said otherwise
pub adds_same : {P Q : Access → Type 0} {old new : AccessMap} → Adds old new P
    → ((a : Access) → P a → Q a) → ((a : Access) → Q a → P a) → Adds old new Q
adds_same p there back = record {
  kept = p.kept;
  added = λ a x. p.added a (back a x);
  each = λ ticket a is. elim (p.each ticket a is) [ inl was ↦ inl was | inr x ↦ inr (there a x.0, x.1) ];
}

-- all tickets stay below one, where those that are added do
pub below_after : {P : Access → Type 0} {old new : AccessMap} (low high : ℕ) → AllBelow old low → Adds old new P → low ≤ high
    → ((a : Access) → P a → ticket_number a < high) → AllBelow new high
below_after low high below adds up under ticket a is = elim (adds.each ticket a is) [
  | inl was ↦ omega (arith, below ticket a was)
  | inr x ↦ omega (arith, under a x.0, x.1)
]

-- nothing stands under a ticket at or above the limit
pub none_at : (m : AccessMap) (limit ticket : ℕ) → AllBelow m limit → limit ≤ ticket → map.get m ticket ≡ None
none_at m limit ticket below low = cases (map.get m ticket) refl where
  cases : (found : Option Access) → map.get m ticket ≡ found → map.get m ticket ≡ None
  cases None is = is
  cases (Some a) is = absurd (omega (arith, below ticket a is))

-- the accesses of one repetition more
pub adds_repetition : (task number : ℕ) (site : Site) (rep : ℕ) (first now new : AccessMap) (access : Access) → AllBelow first (first_ticket task number)
    → Adds first now (λ a. (a.rep < rep) × (a ≡ access_at task number site a.rep))
    → access ≡ access_at task number site rep → new ≡ map.insert now (ticket_number access) access
    → Adds first new (λ a. (a.rep < rep + 1) × (a ≡ access_at task number site a.rep))
adds_repetition task number site rep first now new access below earlier is inserted =
    let below_now : AllBelow now (first_ticket task number + rep) =
    below_after (first_ticket task number) (first_ticket task number + rep) below earlier (omega arith)
    (λ a p. let of_task : a.task ≡ task = ap (λ (b : Access). b.task) p.1 in
    let of_site : a.site ≡ number = ap (λ (b : Access). b.site) p.1 in
    omega (arith, p.0)) in
    let of_task : access.task ≡ task = ap (λ (b : Access). b.task) is in
    let of_site : access.site ≡ number = ap (λ (b : Access). b.site) is in
    let of_rep : access.rep ≡ rep = ap (λ (b : Access). b.rep) is in
    let ticket : first_ticket task number + rep ≤ ticket_number access = omega arith in
    let one : Adds now new (λ b. b ≡ access) =
    subst (λ (n : AccessMap). Adds now n (λ b. b ≡ access)) (sym inserted)
    (adds_one now access (none_at now (first_ticket task number + rep) (ticket_number access) below_now ticket)) in
    adds_both earlier one
    (λ a p. (omega (arith, p.0), p.1))
    (λ a same. let rep_is : a.rep ≡ rep = ap (λ (b : Access). b.rep) same ∙ of_rep in
    (omega arith, same ∙ (is ∙ ap (λ (n : ℕ). access_at task number site n) (sym rep_is))))
    (λ a p. elim (cases_lt a.rep rep) [
      | inl low ↦ inl (low, p.1)
      | inr high ↦ let rep_is : a.rep ≡ rep = omega (arith, p.0) in
          inr (p.1 ∙ (ap (λ (n : ℕ). access_at task number site n) rep_is ∙ sym is))
    ])

-- the ticket of an access at a site is below the first one at the next
pub within_site : (task number : ℕ) (site : Site) → site.times ≤ 256 → (a : Access) → IsRepetition task number site a
    → ticket_number a < first_ticket task (number + 1)
within_site task number site few a is =
    let of_task : a.task ≡ task = ap (λ (b : Access). b.task) is.1 in
    let of_site : a.site ≡ number = ap (λ (b : Access). b.site) is.1 in
    omega (arith, is.0)

-- the accesses at one site more
pub adds_site : (task number : ℕ) (sites : List Site) (site : Site) (first now new : AccessMap) → slice_get sites number ≡ Some site
    → Adds first now (λ a. (a.site < number) × IsAt task sites a) → Adds now new (IsRepetition task number site)
    → Adds first new (λ a. (a.site < number + 1) × IsAt task sites a)
adds_site task number sites site first now new stands earlier one =
    adds_both earlier one
    (λ a p. (omega (arith, p.0), p.1))
    (λ a p. let of_site : a.site ≡ number = ap (λ (b : Access). b.site) p.1 in (
      omega (arith, of_site),
      (
        site,
        subst (λ (n : ℕ). slice_get sites n ≡ Some site) (sym of_site) stands,
        subst (λ (n : ℕ). IsRepetition task n site a) (sym of_site) p,
      ),
    ))
    (λ a p. elim (cases_lt a.site number) [
      | inl low ↦ inl (low, p.1)
      | inr high ↦ let of_site : a.site ≡ number = omega (arith, p.0) in
          let same : p.1.0 ≡ site = same_Some p.1.0 site (sym p.1.1 ∙ (ap (λ (n : ℕ). slice_get sites n) of_site ∙ stands)) in
          inr (subst (λ (x : Site). IsRepetition task number x a) same (subst (λ (n : ℕ). IsRepetition task n p.1.0 a) of_site p.1.2))
    ])

-- the tickets at earlier sites are below the first one at this site
pub below_site : (task number : ℕ) (sites : List Site) → FitsTickets sites → (first now : AccessMap) → AllBelow first (first_ticket task 0)
    → Adds first now (λ a. (a.site < number) × IsAt task sites a) → AllBelow now (first_ticket task number)
below_site task number sites fits first now below earlier =
    below_after (first_ticket task 0) (first_ticket task number) below earlier (omega arith)
    (λ a p. let few : p.1.0.times ≤ 256 = fits.times a.site p.1.0 p.1.1 in
    let under : ticket_number a < first_ticket task (a.site + 1) = within_site task a.site p.1.0 few a p.1.2 in
    omega (arith, p.0))

-- the ticket of an access of a task is below the first one of the next
pub within_task : (task : ℕ) (sites : List Site) → FitsTickets sites → (a : Access) → IsAt task sites a → ticket_number a < first_ticket (task + 1) 0
within_task task sites fits a is =
    let few : is.0.times ≤ 256 = fits.times a.site is.0 is.1 in
    let under : ticket_number a < first_ticket task (a.site + 1) = within_site task a.site is.0 few a is.2 in
    let last : a.site < length sites = slice_get_within sites a.site is.0 is.1 in
    omega (arith, fits.numbers)
