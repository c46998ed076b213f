-- Accesses that begin at different moments of one run of a text have different tickets.
use Rattle.std.proofs.Common.{◌≡◌, ◌≢◌, ◌<◌, ◌≤◌, ◌∙◌, ◌+◌, ◌*◌, ◌++◌, ◌==◌, ℕ, zero, suc, Bool, true, false, List, [], ◌∷◌, None, Option, Some, ap}
use Rattle.std.proofs.Common.{arith, cond, inl, inr, refl, slice_get, subst, sym, take}
use Rattle.std.proofs.lemmas.Bool.{eq-eqb}
use Rattle.std.proofs.lemmas.Bool.Decides.{eqb_tells}
use Rattle.std.proofs.lemmas.List.{append-nil, append_assoc}
use Rattle.access_types.specs.Access.{Access}
use Rattle.access_types.specs.Ticket.{ticket_number}
use Rattle.access_types.specs.declared.history.Happening.{Happening}
use Rattle.access_types.specs.declared.history.Happening.TheVariants as happenings
use Rattle.litmus_syntax.specs.Tree.{Block}
use Rattle.litmus_semantics.specs.Meaning.{MeansBlock}
use Rattle.litmus_semantics.specs.Task.{Progress, Setting, begins_at}
use Rattle.litmus_semantics.specs.TextSites.{FitsTickets, IsOfText, access_at, block_sites}
use Rattle.litmus_semantics.specs.declared.site.Site.{Site}
use Rattle.litmus_semantics.proofs.TextSitesLemmas.{Added, AreNumbered, HasSite, IsNumbered, begun_at, begun_cons, by_block, times_from}

-- what may be said of an access that begins
abbrev OnBegin : (Access → Type 0) → Happening → Type 0
OnBegin P (happenings.Begin a) = P a
OnBegin P (happenings.End a) = Unit {0}
OnBegin P (happenings.Read bytes value) = Unit {0}
OnBegin P (happenings.Write bytes value) = Unit {0}
OnBegin P (happenings.Lock lock) = Unit {0}
OnBegin P (happenings.Unlock lock) = Unit {0}
OnBegin P (happenings.Mark m) = Unit {0}

abbrev some_of : Happening → Option Happening → Happening
some_of other None = other
some_of other (Some h) = h

same_some : (h g : Happening) → Some h ≡ Some g → h ≡ g
same_some h g is = ap (λ (o : Option Happening). some_of h o) is

-- the access that begins at a place of the list is numbered by what came before it
numbered_at : (task first : ℕ) (sites : List Site) (earlier does : List Happening) (i : ℕ) (a : Access) → AreNumbered task first sites earlier does
    → slice_get does i ≡ Some (happenings.Begin a) → IsNumbered task first sites (earlier ++ take i does) (happenings.Begin a)
numbered_at task first sites earlier [] i a all is = cc
numbered_at task first sites earlier (h ∷ later) zero a all is =
    subst (λ (e : List Happening). IsNumbered task first sites e (happenings.Begin a)) (sym (append-nil earlier))
    (subst (λ (g : Happening). IsNumbered task first sites earlier g) (same_some h (happenings.Begin a) is) all.0)
numbered_at task first sites earlier (h ∷ later) (suc i) a all is =
    subst (λ (e : List Happening). IsNumbered task first sites e (happenings.Begin a)) (append_assoc earlier (h ∷ []) (take i later))
    (numbered_at task first sites (earlier ++ h ∷ []) later i a all.1 is)

-- an access that begins is counted
head_counts : (a : Access) (h : Happening) → h ≡ happenings.Begin a → begins_at a.site h ≡ true
head_counts a h is = ap (begins_at a.site) is ∙ eq-eqb a.site a.site refl

counted_one : (b : Bool) → b ≡ true → ◌≡◌ {A = ℕ} (cond {A = ℕ} b 1 0) 1
counted_one b is = ap (λ (c : Bool). cond {A = ℕ} c 1 0) is

-- and so more begin at its site by each later place
more_begun : (does : List Happening) (i j : ℕ) (a : Access) → i < j → slice_get does i ≡ Some (happenings.Begin a)
    → suc (begun_at a.site (take i does)) ≤ begun_at a.site (take j does)
more_begun [] i j a below is = cc
more_begun (h ∷ later) zero zero a below is = omega arith
more_begun (h ∷ later) zero (suc j) a below is =
    let one = counted_one (begins_at a.site h) (head_counts a h (same_some h (happenings.Begin a) is)) in
    omega (arith, one, begun_cons a.site h (take j later))
more_begun (h ∷ later) (suc i) zero a below is = omega arith
more_begun (h ∷ later) (suc i) (suc j) a below is =
    let within : i < j = omega arith in
    omega (arith, more_begun later i j a within is, begun_cons a.site h (take i later), begun_cons a.site h (take j later))

all_begun : (does : List Happening) (i : ℕ) (a : Access) → slice_get does i ≡ Some (happenings.Begin a) → suc (begun_at a.site (take i does)) ≤ begun_at a.site does
all_begun [] i a is = cc
all_begun (h ∷ later) zero a is =
    let one = counted_one (begins_at a.site h) (head_counts a h (same_some h (happenings.Begin a) is)) in
    omega (arith, one, begun_cons a.site h later)
all_begun (h ∷ later) (suc i) a is = omega (arith, all_begun later i a is, begun_cons a.site h (take i later), begun_cons a.site h later)

-- the site of a number
at_or_after : (first : ℕ) (sites : List Site) (n : ℕ) (site : Site) → HasSite first sites n site → first ≤ n
at_or_after first [] n site h = absurd h
at_or_after first (x ∷ xs) n site h = elim h [ inl p ↦ omega (arith, p.0) | inr p ↦ omega (arith, at_or_after (suc first) xs n site p) ]

no_times : (b : Bool) (times : ℕ) → b ≡ false → cond b times 0 ≡ 0
no_times b times is = ap (λ (c : Bool). cond c times 0) is

different : (a b : ℕ) → a ≢ b → (a == b) ≡ false
different a b apart = elim (eqb_tells a b) [ inl p ↦ absurd (apart p.1) | inr p ↦ p.0 ]

times_before : (first : ℕ) (sites : List Site) (n : ℕ) → n < first → times_from first sites n ≡ 0
times_before first [] n below = refl
times_before first (x ∷ xs) n below =
    let apart : first ≢ n = λ is. omega arith in
    let head : cond (first == n) x.times 0 ≡ 0 = no_times (first == n) x.times (different first n apart) in
    let later : n < suc first = omega arith in
    omega (arith, head, times_before (suc first) xs n later)

times_of_site : (first : ℕ) (sites : List Site) (n : ℕ) (site : Site) → HasSite first sites n site → times_from first sites n ≡ site.times
times_of_site first [] n site h = absurd h
times_of_site first (x ∷ xs) n site h = elim h [
  | inl p ↦ let here : cond (first == n) x.times 0 ≡ x.times = ap (λ (b : Bool). cond b x.times 0) (eq-eqb first n (sym p.0)) in
      let below : n < suc first = omega (arith, p.0) in
      let same : site.times ≡ x.times = ap (λ (y : Site). y.times) p.1 in
      omega (arith, here, same, times_before (suc first) xs n below)
  | inr p ↦ let above : suc first ≤ n = at_or_after (suc first) xs n site p in
      let apart : first ≢ n = λ is. omega arith in
      let head : cond (first == n) x.times 0 ≡ 0 = no_times (first == n) x.times (different first n apart) in
      omega (arith, head, times_of_site (suc first) xs n site p)
]

site_at : (first : ℕ) (sites : List Site) (n : ℕ) (site : Site) → HasSite first sites n site → (i : ℕ) × (n ≡ first + i) × (slice_get sites i ≡ Some site)
site_at first [] n site h = absurd h
site_at first (x ∷ xs) n site h = elim h [
  | inl p ↦ (0, omega (arith, p.0), ap Some (sym p.1))
  | inr p ↦ let found = site_at (suc first) xs n site p in (suc found.0, omega (arith, found.1), found.2)
]

module _ (s : Setting) (body : Block) (registers : List ℕ) (end : Progress) (means : MeansBlock s 0 body (record { did = []; registers = registers }) end) where
  done : Added s.task 0 (block_sites s body) (record { did = []; registers = registers }) end
  done = by_block s 0 body (record { did = []; registers = registers }) end means

  all_numbered : AreNumbered s.task 0 (block_sites s body) [] end.did
  all_numbered = subst (λ (d : List Happening). AreNumbered s.task 0 (block_sites s body) [] d) (sym done.did) done.numbered

  pub numbered : (i : ℕ) (a : Access) → slice_get end.did i ≡ Some (happenings.Begin a)
      → (site : Site) × HasSite 0 (block_sites s body) a.site site × (a ≡ access_at s.task a.site site (begun_at a.site (take i end.did)))
  numbered i a is = numbered_at s.task 0 (block_sites s body) [] end.did i a all_numbered is

  -- each access that begins is one of the text
  pub of_text : (i : ℕ) (a : Access) → slice_get end.did i ≡ Some (happenings.Begin a) → IsOfText s body a
  of_text i a is =
      let got = numbered i a is in
      let rep : a.rep ≡ begun_at a.site (take i end.did) = ap (λ (b : Access). b.rep) got.2 in
      let place = site_at 0 (block_sites s body) a.site got.0 got.1 in
      let number : a.site ≡ place.0 = omega (arith, place.1) in
      let most : begun_at a.site end.did ≤ times_from 0 (block_sites s body) a.site =
      subst (λ (d : List Happening). begun_at a.site d ≤ times_from 0 (block_sites s body) a.site) (sym done.did) (done.at_most a.site) in
      record {
        site = got.0;
        stands = subst (λ (n : ℕ). slice_get (block_sites s body) n ≡ Some got.0) (sym number) place.2;
        rep = omega (arith, rep, most, all_begun end.did i a is, times_of_site 0 (block_sites s body) a.site got.0 got.1);
        is = got.2 ∙ ap (λ (n : ℕ). access_at s.task a.site got.0 n) (sym rep);
      }

  -- two that begin at different moments have different tickets
  pub own_tickets : FitsTickets (block_sites s body) → (i j : ℕ) (a b : Access) → i < j
      → slice_get end.did i ≡ Some (happenings.Begin a) → slice_get end.did j ≡ Some (happenings.Begin b) → ticket_number a ≢ ticket_number b
  own_tickets fits i j a b below at_a at_b same =
      let first = of_text i a at_a in
      let second = of_text j b at_b in
      let rep_a : a.rep ≡ begun_at a.site (take i end.did) = ap (λ (c : Access). c.rep) (numbered i a at_a).2 in
      let rep_b : b.rep ≡ begun_at b.site (take j end.did) = ap (λ (c : Access). c.rep) (numbered j b at_b).2 in
      let task_a : a.task ≡ s.task = ap (λ (c : Access). c.task) first.is in
      let task_b : b.task ≡ s.task = ap (λ (c : Access). c.task) second.is in
      let times_a : first.site.times ≤ 256 = fits.times a.site first.site first.stands in
      let times_b : second.site.times ≤ 256 = fits.times b.site second.site second.stands in
      let small_a : a.rep < 256 = omega (arith, first.rep) in
      let small_b : b.rep < 256 = omega (arith, second.rep) in
      let both : 1 + a.task * 65536 + a.site * 256 + a.rep ≡ 1 + b.task * 65536 + b.site * 256 + b.rep = same in
      let site : a.site ≡ b.site = omega arith in
      let rep : a.rep ≡ b.rep = omega arith in
      let fewer : suc (begun_at a.site (take i end.did)) ≤ begun_at a.site (take j end.did) = more_begun end.did i j a below at_a in
      let there : begun_at b.site (take j end.did) ≡ begun_at a.site (take j end.did) = ap (λ (n : ℕ). begun_at n (take j end.did)) (sym site) in
      omega arith
