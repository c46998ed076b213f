-- Each access that begins in a run of a text is one of the text, with a repetition of its own.
use Rattle.std.proofs.Common.{◌≡◌, ◌≤◌, ◌⊎◌, ◌∙◌, ◌+◌, ◌*◌, ◌++◌, ◌==◌, ℕ, zero, suc, Bool, true, false, List, [], ◌∷◌, None, Option, Some, ap, arith}
use Rattle.std.proofs.Common.{cond, count_by, inl, inr, length, length-append, map, not, refl, replicate, subst, sym, if◌then◌else◌}
use Rattle.std.proofs.lemmas.List.{append-nil, append_assoc, length-map}
use Rattle.std.proofs.lemmas.List.Sums.{sum_by-append, sum_by-cons}
use Rattle.access_types.specs.Access.{Access, proper_mask}
use Rattle.access_types.specs.declared.history.Bytes.{Bytes}
use Rattle.access_types.specs.declared.history.Happening.{Happening}
use Rattle.access_types.specs.declared.history.Happening.TheVariants as happenings
use Rattle.access_types.specs.declared.history.Mark.{Mark}
use Rattle.access_types.specs.declared.history.Mark.TheVariants as marks
use Rattle.access_types.specs.declared.kind.Claim.TheVariants.{NoAccesses, NoWrites}
use Rattle.access_types.specs.declared.kind.Kind.{Kind}
use Rattle.access_types.specs.declared.kind.Kind.TheVariants as kinds
use Rattle.litmus_syntax.specs.Sites.{accesses_of, expression_has_access, sites_of}
use Rattle.litmus_syntax.specs.Tree.{Assignment, Block, Expression, Fetch, Load, Statement}
use Rattle.litmus_syntax.specs.Tree as tree
use Rattle.litmus_syntax.specs.declared.statement.Call.{Call}
use Rattle.litmus_syntax.specs.declared.statement.Call.TheVariants as calls
use Rattle.litmus_semantics.specs.Assignments.{Assigns, AssignsIn, compound_kind, write_kind}
use Rattle.litmus_semantics.specs.Calls.{Scoped, call_does, check_kind, checked_bytes, scoped_access, scoped_assertion}
use Rattle.litmus_semantics.specs.Loads as loads
use Rattle.litmus_semantics.specs.Loads.{ComparesAndWrites, Evaluates, Fetches, Loads, exchange_kind, fetch_kind, in_data_races, load_in, variable_of}
use Rattle.litmus_semantics.specs.Meaning.{InBlock, Means, MeansBlock, Turns, after_condition}
use Rattle.litmus_semantics.specs.Task.{Progress, Setting, access_now, assigning, begins_at, bytes_in, doing, has_lock}
use Rattle.litmus_semantics.specs.declared.site.Site.{Site}
use Rattle.litmus_semantics.specs.TextSites.{access_at, assignment_by, block_sites, call_by, expression_by, once, repeated, statement_by}

two_sums : {a b c d : ℕ} → a ≡ b → c ≡ d → a + c ≡ b + d
two_sums p q = omega arith

-- how many accesses begin at a site
abbrev pub begun_at : ℕ → List Happening → ℕ
begun_at k does = count_by (begins_at k) does

pub begun_append : (k : ℕ) (first second : List Happening) → begun_at k (first ++ second) ≡ begun_at k first + begun_at k second
begun_append k first second = sum_by-append (λ (h : Happening). cond (begins_at k h) 1 0) first second

pub begun_cons : (k : ℕ) (h : Happening) (later : List Happening) → begun_at k (h ∷ later) ≡ cond (begins_at k h) 1 0 + begun_at k later
begun_cons k h later = sum_by-cons (λ (g : Happening). cond (begins_at k g) 1 0) h later

-- none of these begins an access
abbrev IsNoBegin : Happening → Type 0
IsNoBegin (happenings.Begin a) = ⊥
IsNoBegin (happenings.End a) = Unit {0}
IsNoBegin (happenings.Read bytes value) = Unit {0}
IsNoBegin (happenings.Write bytes value) = Unit {0}
IsNoBegin (happenings.Lock lock) = Unit {0}
IsNoBegin (happenings.Unlock lock) = Unit {0}
IsNoBegin (happenings.Mark m) = Unit {0}

abbrev BeginNone : List Happening → Type 0
BeginNone [] = Unit {0}
BeginNone (h ∷ later) = IsNoBegin h × BeginNone later

no_begin : (k : ℕ) (h : Happening) → IsNoBegin h → begins_at k h ≡ false
no_begin k (happenings.Begin a) none = absurd none
no_begin k (happenings.End a) none = refl
no_begin k (happenings.Read bytes value) none = refl
no_begin k (happenings.Write bytes value) none = refl
no_begin k (happenings.Lock lock) none = refl
no_begin k (happenings.Unlock lock) none = refl
no_begin k (happenings.Mark m) none = refl

pub begun_none : (k : ℕ) (does : List Happening) → BeginNone does → begun_at k does ≡ 0
begun_none k [] none = refl
begun_none k (h ∷ later) none =
    let first : begun_at k (h ∷ later) ≡ cond (begins_at k h) 1 0 + begun_at k later = begun_cons k h later in
    let head : ◌≡◌ {A = ℕ} (cond {A = ℕ} (begins_at k h) 1 0) 0 = ap (λ (b : Bool). cond {A = ℕ} b 1 0) (no_begin k h none.0) in
    let rest : begun_at k later ≡ 0 = begun_none k later none.1 in
    omega arith

none_append : (first second : List Happening) → BeginNone first → BeginNone second → BeginNone (first ++ second)
none_append [] second p q = q
none_append (h ∷ first) second p q = (p.0, none_append first second p.1 q)

none_marks : (count : ℕ) (m : Mark) → BeginNone (replicate count (happenings.Mark m))
none_marks zero m = tt
none_marks (suc count) m = (tt, none_marks count m)

-- the site of a number, where the first of these has this one
abbrev pub HasSite : ℕ → List Site → ℕ → Site → Type 0
HasSite first [] number site = ⊥
HasSite first (x ∷ xs) number site = ((number ≡ first) × (site ≡ x)) ⊎ HasSite (suc first) xs number site

-- how often that of a number can begin
abbrev pub times_from : ℕ → List Site → ℕ → ℕ
times_from first [] k = 0
times_from first (x ∷ xs) k = cond (first == k) x.times 0 + times_from (suc first) xs k

shift : (first n : ℕ) → suc first + n ≡ first + suc n
shift first n = omega arith

zero_on : (first : ℕ) → first + 0 ≡ first
zero_on first = omega arith

times_append : (first : ℕ) (xs ys : List Site) (k : ℕ) → times_from first (xs ++ ys) k ≡ times_from first xs k + times_from (first + length xs) ys k
times_append first [] ys k =
    let same : times_from (first + 0) ys k ≡ times_from first ys k = ap (λ (n : ℕ). times_from n ys k) (zero_on first) in
    omega arith
times_append first (x ∷ xs) ys k =
    let rest : times_from (suc first) (xs ++ ys) k ≡ times_from (suc first) xs k + times_from (suc first + length xs) ys k = times_append (suc first) xs ys k in
    let same : times_from (suc first + length xs) ys k ≡ times_from (first + suc (length xs)) ys k = ap (λ (n : ℕ). times_from n ys k) (shift first (length xs)) in
    let head : ℕ = cond (first == k) x.times 0 in
    let whole : head + times_from (suc first) (xs ++ ys) k ≡ head + times_from (suc first) xs k + times_from (first + suc (length xs)) ys k = omega arith in
    whole

scaled : (b : Bool) (turns times : ℕ) → cond b (turns * times) 0 ≡ turns * cond b times 0
scaled true turns times = refl
scaled false turns times = omega arith

times_map : (first turns : ℕ) (xs : List Site) (k : ℕ) → times_from first (map (repeated turns) xs) k ≡ turns * times_from first xs k
times_map first turns [] k = omega arith
times_map first turns (x ∷ xs) k =
    let head : cond (first == k) (turns * x.times) 0 ≡ turns * cond (first == k) x.times 0 = scaled (first == k) turns x.times in
    let rest : times_from (suc first) (map (repeated turns) xs) k ≡ turns * times_from (suc first) xs k = times_map (suc first) turns xs k in
    let here : ℕ = cond (first == k) x.times 0 in
    let later : ℕ = times_from (suc first) xs k in
    let spread : turns * (here + later) ≡ turns * here + turns * later = omega arith in
    omega arith

site_left : (first : ℕ) (xs ys : List Site) (n : ℕ) (site : Site) → HasSite first xs n site → HasSite first (xs ++ ys) n site
site_left first [] ys n site h = absurd h
site_left first (x ∷ xs) ys n site h = elim h [ inl p ↦ inl p | inr p ↦ inr (site_left (suc first) xs ys n site p) ]

site_right : (first : ℕ) (xs ys : List Site) (n : ℕ) (site : Site) → HasSite (first + length xs) ys n site → HasSite first (xs ++ ys) n site
site_right first [] ys n site h = subst (λ (f : ℕ). HasSite f ys n site) (zero_on first) h
site_right first (x ∷ xs) ys n site h =
    inr (site_right (suc first) xs ys n site (subst (λ (f : ℕ). HasSite f ys n site) (sym (shift first (length xs))) h))

site_map : (first turns : ℕ) (xs : List Site) (n : ℕ) (site : Site) → HasSite first xs n site → HasSite first (map (repeated turns) xs) n (repeated turns site)
site_map first turns [] n site h = absurd h
site_map first turns (x ∷ xs) n site h =
    elim h [ inl p ↦ inl (p.0, ap (repeated turns) p.1) | inr p ↦ inr (site_map (suc first) turns xs n site p) ]

module _ (task : ℕ) where
  -- an access that begins is that of its site, and of the repetition that comes next there
  abbrev pub IsNumbered : ℕ → List Site → List Happening → Happening → Type 0
  IsNumbered first sites earlier (happenings.Begin a) =
      (site : Site) × HasSite first sites a.site site × (a ≡ access_at task a.site site (begun_at a.site earlier))
  IsNumbered first sites earlier (happenings.End a) = Unit {0}
  IsNumbered first sites earlier (happenings.Read bytes value) = Unit {0}
  IsNumbered first sites earlier (happenings.Write bytes value) = Unit {0}
  IsNumbered first sites earlier (happenings.Lock lock) = Unit {0}
  IsNumbered first sites earlier (happenings.Unlock lock) = Unit {0}
  IsNumbered first sites earlier (happenings.Mark m) = Unit {0}

  abbrev pub AreNumbered : ℕ → List Site → List Happening → List Happening → Type 0
  AreNumbered first sites earlier [] = Unit {0}
  AreNumbered first sites earlier (h ∷ later) = IsNumbered first sites earlier h × AreNumbered first sites (earlier ++ h ∷ []) later

  numbered_none : (first : ℕ) (sites : List Site) (earlier : List Happening) (h : Happening) → IsNoBegin h → IsNumbered first sites earlier h
  numbered_none first sites earlier (happenings.Begin a) none = absurd none
  numbered_none first sites earlier (happenings.End a) none = tt
  numbered_none first sites earlier (happenings.Read bytes value) none = tt
  numbered_none first sites earlier (happenings.Write bytes value) none = tt
  numbered_none first sites earlier (happenings.Lock lock) none = tt
  numbered_none first sites earlier (happenings.Unlock lock) none = tt
  numbered_none first sites earlier (happenings.Mark m) none = tt

  are_none : (first : ℕ) (sites : List Site) (earlier does : List Happening) → BeginNone does → AreNumbered first sites earlier does
  are_none first sites earlier [] none = tt
  are_none first sites earlier (h ∷ later) none =
      (numbered_none first sites earlier h none.0, are_none first sites (earlier ++ h ∷ []) later none.1)

  are_append : (first : ℕ) (sites : List Site) (earlier does more : List Happening) → AreNumbered first sites earlier does → AreNumbered first sites (earlier ++ does) more
      → AreNumbered first sites earlier (does ++ more)
  are_append first sites earlier [] more p q = subst (λ (e : List Happening). AreNumbered first sites e more) (append-nil earlier) q
  are_append first sites earlier (h ∷ later) more p q = (
    p.0,
    are_append first sites (earlier ++ h ∷ []) later more p.1
        (subst (λ (e : List Happening). AreNumbered first sites e more) (sym (append_assoc earlier (h ∷ []) later)) q),
  )

  -- other sites that have the same
  abbrev SameSites : ℕ → List Site → ℕ → List Site → Type 0
  SameSites first xs other ys =
      (n : ℕ) (site : Site) → HasSite first xs n site
      → (also : Site) × HasSite other ys n also × ((rep : ℕ) → access_at task n site rep ≡ access_at task n also rep)

  one_by : (first : ℕ) (xs : List Site) (other : ℕ) (ys : List Site) (earlier : List Happening) (h : Happening) → SameSites first xs other ys
      → IsNumbered first xs earlier h → IsNumbered other ys earlier h
  one_by first xs other ys earlier (happenings.Begin a) same p =
      let also = same a.site p.0 p.1 in (also.0, also.1, p.2 ∙ also.2 (begun_at a.site earlier))
  one_by first xs other ys earlier (happenings.End a) same p = tt
  one_by first xs other ys earlier (happenings.Read bytes value) same p = tt
  one_by first xs other ys earlier (happenings.Write bytes value) same p = tt
  one_by first xs other ys earlier (happenings.Lock lock) same p = tt
  one_by first xs other ys earlier (happenings.Unlock lock) same p = tt
  one_by first xs other ys earlier (happenings.Mark m) same p = tt

  all_by : (first : ℕ) (xs : List Site) (other : ℕ) (ys : List Site) (earlier does : List Happening) → SameSites first xs other ys
      → AreNumbered first xs earlier does → AreNumbered other ys earlier does
  all_by first xs other ys earlier [] same p = tt
  all_by first xs other ys earlier (h ∷ later) same p =
      (one_by first xs other ys earlier h same p.0, all_by first xs other ys (earlier ++ h ∷ []) later same p.1)

  -- what was done between these, where the sites from the first number on are these
  pub record Added (first : ℕ) (sites : List Site) (before after : Progress) : Type 0 where
    pub more : List Happening
    pub did : after.did ≡ before.did ++ more
    pub numbered : AreNumbered first sites before.did more
    pub at_most : (k : ℕ) → begun_at k more ≤ times_from first sites k

  -- with more sites to the right, or to the left
  widened : (first : ℕ) (xs ys : List Site) (before after : Progress) → Added first xs before after → Added first (xs ++ ys) before after
  widened first xs ys before after h = record {
    more = h.more;
    did = h.did;
    numbered = all_by first xs first (xs ++ ys) before.did h.more (λ n site has. (site, site_left first xs ys n site has, λ rep. refl)) h.numbered;
    at_most = λ k. omega (arith, h.at_most k, times_append first xs ys k);
  }

  shifted : (first : ℕ) (xs ys : List Site) (before after : Progress) → Added (first + length xs) ys before after → Added first (xs ++ ys) before after
  shifted first xs ys before after h = record {
    more = h.more;
    did = h.did;
    numbered = all_by (first + length xs) ys first (xs ++ ys) before.did h.more (λ n site has. (site, site_right first xs ys n site has, λ rep. refl)) h.numbered;
    at_most = λ k. omega (arith, h.at_most k, times_append first xs ys k);
  }

  -- the one and then the other, of the same sites: as often as both together
  joined : (first : ℕ) (sites : List Site) (before between after : Progress) (p : Added first sites before between) (q : Added first sites between after)
      → (all : after.did ≡ before.did ++ (p.more ++ q.more)) × AreNumbered first sites before.did (p.more ++ q.more)
  joined first sites before between after p q = (
    q.did ∙ (ap (λ (d : List Happening). d ++ q.more) p.did ∙ append_assoc before.did p.more q.more),
    are_append first sites before.did p.more q.more p.numbered (subst (λ (d : List Happening). AreNumbered first sites d q.more) p.did q.numbered),
  )

  -- one after the other, of sites that follow on one another
  followed : (first : ℕ) (xs ys : List Site) (before between after : Progress) → Added first xs before between → Added (first + length xs) ys between after
      → Added first (xs ++ ys) before after
  unfolding widened shifted
  followed first xs ys before between after p q =
      let wide : Added first (xs ++ ys) before between = widened first xs ys before between p in
      let later : Added first (xs ++ ys) between after = shifted first xs ys between after q in
      let both = joined first (xs ++ ys) before between after wide later in
      record {
        more = p.more ++ q.more;
        did = both.0;
        numbered = both.1;
        at_most = λ k. omega (arith, p.at_most k, q.at_most k, times_append first xs ys k, begun_append k p.more q.more);
      }

  -- nothing begins
  quiet : (first : ℕ) (sites : List Site) (before after : Progress) (does : List Happening) → BeginNone does → after.did ≡ before.did ++ does → Added first sites before after
  quiet first sites before after does none did = record {
    more = does;
    did = did;
    numbered = are_none first sites before.did does none;
    at_most = λ k. omega (arith, begun_none k does none);
  }

  still : (first : ℕ) (sites : List Site) (before after : Progress) → after.did ≡ before.did → Added first sites before after
  still first sites before after did = quiet first sites before after [] tt (did ∙ sym (append-nil before.did))

  -- after what is quiet, and before it
  after_quiet : (first : ℕ) (sites : List Site) (before between after : Progress) (does : List Happening) → BeginNone does → between.did ≡ before.did ++ does
      → Added first sites between after → Added first sites before after
  unfolding quiet
  after_quiet first sites before between after does none did h =
      let both = joined first sites before between after (quiet first sites before between does none did) h in
      record {
        more = does ++ h.more;
        did = both.0;
        numbered = both.1;
        at_most = λ k. omega (arith, h.at_most k, begun_none k does none, begun_append k does h.more);
      }

  before_quiet : (first : ℕ) (sites : List Site) (before between after : Progress) (does : List Happening) → Added first sites before between → BeginNone does
      → after.did ≡ between.did ++ does → Added first sites before after
  unfolding quiet
  before_quiet first sites before between after does h none did =
      let both = joined first sites before between after h (quiet first sites between after does none did) in
      record {
        more = h.more ++ does;
        did = both.0;
        numbered = both.1;
        at_most = λ k. omega (arith, h.at_most k, begun_none k does none, begun_append k h.more does);
      }

module _ (s : Setting) where
  -- one access, with what is quiet round it
  one_access : (first : ℕ) (bytes : Bytes) (kind : Kind) (mask : Option ℕ) (before after : Progress) (later : List Happening) → BeginNone later
      → after.did ≡ before.did ++ happenings.Begin (access_now s first before bytes kind mask) ∷ later → Added s.task first (once bytes kind mask) before after
  one_access first bytes kind mask before after later none did =
      let a : Access = access_now s first before bytes kind mask in
      let site : Site = record { bytes = bytes; kind = kind; mask = mask; times = 1 } in
      record {
        more = happenings.Begin a ∷ later;
        did = did;
        numbered = ((site, inl (refl, refl), refl), are_none s.task first (once bytes kind mask) (before.did ++ happenings.Begin a ∷ []) later none);
        at_most = λ k. omega (arith, begun_cons k (happenings.Begin a) later, begun_none k later none);
      }

  -- what a load did begins with its access
  fetched : (site : ℕ) (f : Fetch) (before : Progress) (old : ℕ) (does : List Happening) → Fetches s site f before old does
      → (later : List Happening) × BeginNone later × (does ≡ happenings.Begin (access_now s site before (bytes_in s (variable_of f)) (fetch_kind f) None) ∷ later)
  fetched site (tree.read form x) before old does is = (_, (tt, (tt, tt)), is)
  fetched site (tree.exchange x e) before old does is = (_, (tt, (tt, (tt, tt))), is)
  fetched site (tree.compare_exchange x e f) before old does (loads.same is did) = (_, (tt, (tt, (tt, tt))), did)
  fetched site (tree.compare_exchange x e f) before old does (loads.other is did) = (_, (tt, (tt, tt)), did)

  -- the access inside data_race( ) is the one that it would be outside
  same_access : (site : ℕ) (before : Progress) (does : List Happening) (bytes : Bytes) (kind : Kind) (mask : Option ℕ) → BeginNone does
      → access_now s site before bytes kind mask ≡ access_now s site (doing before does) bytes kind mask
  same_access site before does bytes kind mask none =
      let same : begun_at site before.did ≡ begun_at site (before.did ++ does) = omega (arith, begun_append site before.did does, begun_none site does none) in
      ap (λ (n : ℕ). record (access_now s site before bytes kind mask) { rep = n }) same

  by_load : (site : ℕ) (l : Load) (before : Progress) (loaded : ℕ) (after : Progress) → Loads s site l before loaded after
      → Added s.task site (once (bytes_in s (variable_of l.fetch)) (fetch_kind l.fetch) None) before after
  by_load site l before loaded after h =
      let disables : List Happening = replicate l.data_races (happenings.Mark marks.Disable) in
      let enables : List Happening = replicate l.data_races (happenings.Mark marks.Enable) in
      let quiet_first : BeginNone disables = none_marks l.data_races marks.Disable in
      let quiet_last : BeginNone enables = none_marks l.data_races marks.Enable in
      let got = fetched site l.fetch before h.old h.does h.fetches in
      let bytes : Bytes = bytes_in s (variable_of l.fetch) in
      let kind : Kind = fetch_kind l.fetch in
      let off : Progress = doing before disables in
      let begin : List Happening → List Happening = λ later. happenings.Begin (access_now s site off bytes kind None) ∷ later in
      let does : h.does ≡ begin got.0 =
      got.2 ∙ ap (λ (a : Access). happenings.Begin a ∷ got.0) (same_access site before disables bytes kind None quiet_first) in
      let all : after.did ≡ off.did ++ begin (got.0 ++ enables) =
      ap (λ (p : Progress). p.did) h.comes_to
      ∙ (ap (λ (d : List Happening). before.did ++ (disables ++ d ++ enables)) does
      ∙ (ap (λ (d : List Happening). before.did ++ d) (append_assoc disables (begin got.0) enables)
      ∙ sym (append_assoc before.did disables (begin (got.0 ++ enables))))) in
      after_quiet s.task site (once bytes kind None) before off after disables quiet_first refl
      (one_access site bytes kind None off after (got.0 ++ enables) (none_append got.0 enables got.1 quiet_last) all)

  by_expression : (site : ℕ) (e : Expression) (before : Progress) (value : ℕ) (after : Progress) → Evaluates s site e before value after
      → Added s.task site (expression_by (bytes_in s) e) before after
  by_expression site (tree.pure e) before value after h = still s.task site [] before after (ap (λ (p : Progress). p.did) h.1)
  by_expression site (tree.loading e) before value after h = by_load site (load_in e) before h.0 after h.1

  by_assignment : (site : ℕ) (given : Assignment) (before after : Progress) → Assigns s site given before after → Added s.task site (assignment_by (bytes_in s) given) before after
  by_assignment site (tree.to_register r e) before after h =
      before_quiet s.task site (expression_by (bytes_in s) e) before h.1 after [] (by_expression site e before h.0 h.1 h.2) tt
      (ap (λ (p : Progress). p.did) h.3 ∙ sym (append-nil h.1.did))
  by_assignment site (tree.write form x e) before after h =
      one_access site (bytes_in s x) (write_kind form) None before after _ (tt, (tt, tt)) (ap (λ (p : Progress). p.did) h)
  by_assignment site (tree.add x e) before after h =
      one_access site (bytes_in s x) compound_kind None before after _ (tt, (tt, (tt, tt))) (ap (λ (p : Progress). p.did) h.1)
  by_assignment site (tree.increment x) before after h =
      one_access site (bytes_in s x) compound_kind None before after _ (tt, (tt, (tt, tt))) (ap (λ (p : Progress). p.did) h.1)
  by_assignment site (tree.atomic_add e x) before after h =
      one_access site (bytes_in s x) exchange_kind None before after _ (tt, (tt, (tt, tt))) (ap (λ (p : Progress). p.did) h.1)
  by_assignment site (tree.atomic_increment x) before after h =
      one_access site (bytes_in s x) exchange_kind None before after _ (tt, (tt, (tt, tt))) (ap (λ (p : Progress). p.did) h.1)
  by_assignment site (tree.atomic_decrement x) before after h =
      one_access site (bytes_in s x) exchange_kind None before after _ (tt, (tt, (tt, tt))) (ap (λ (p : Progress). p.did) h.1)

  none_if : (b : Bool) (m : Mark) → BeginNone (if b then happenings.Mark m ∷ [] else [])
  none_if true m = (tt, tt)
  none_if false m = tt

  by_data_race : (site : ℕ) (data_race : Bool) (given : Assignment) (before after : Progress) → AssignsIn s site data_race given before after
      → Added s.task site (assignment_by (bytes_in s) given) before after
  by_data_race site data_race given before after h =
      let disables : List Happening = if data_race then happenings.Mark marks.Disable ∷ [] else [] in
      let enables : List Happening = if data_race then happenings.Mark marks.Enable ∷ [] else [] in
      before_quiet s.task site (assignment_by (bytes_in s) given) before h.0 after enables
      (after_quiet s.task site (assignment_by (bytes_in s) given) before (doing before disables) h.0 disables (none_if data_race marks.Disable) refl
      (by_assignment site given (doing before disables) h.0 h.1))
      (none_if data_race marks.Enable) (ap (λ (p : Progress). p.did) h.2)

  none_unlock : (lock : ℕ) (b : Bool) → BeginNone (if b then happenings.Unlock lock ∷ [] else [])
  none_unlock lock true = (tt, tt)
  none_unlock lock false = tt

  by_sized : (site : ℕ) (empty : Bool) (bytes : Bytes) (kind : Kind) (before after : Progress)
      → after.did ≡ before.did ++ (if empty then [] else happenings.Begin (access_now s site before bytes kind None) ∷ happenings.End (access_now s site before bytes kind None) ∷ [])
      → Added s.task site (if empty then [] else once bytes kind None) before after
  by_sized site true bytes kind before after did = quiet s.task site [] before after [] tt did
  by_sized site false bytes kind before after did = one_access site bytes kind None before after _ (tt, tt) did

  by_call : (site : ℕ) (c : Call) (before after : Progress) → scoped_assertion (tree.call c) ≡ None → after ≡ doing before (call_does s site c before)
      → Added s.task site (call_by (bytes_in s) c) before after
  by_call site (calls.Barrier b) before after plain h = quiet s.task site [] before after [] tt (ap (λ (p : Progress). p.did) h)
  by_call site (calls.Lock l) before after plain h = quiet s.task site [] before after (happenings.Lock l ∷ []) (tt, tt) (ap (λ (p : Progress). p.did) h)
  by_call site (calls.Unlock l) before after plain h =
      quiet s.task site [] before after _ (none_unlock l (has_lock l before.did)) (ap (λ (p : Progress). p.did) h)
  by_call site (calls.AssertWriter x false) before after plain h =
      one_access site (bytes_in s x) (kinds.Assert NoWrites) None before after _ (tt, tt) (ap (λ (p : Progress). p.did) h)
  by_call site (calls.AssertWriter x true) before after plain h = cc
  by_call site (calls.AssertAccess x false) before after plain h =
      one_access site (bytes_in s x) (kinds.Assert NoAccesses) None before after _ (tt, tt) (ap (λ (p : Progress). p.did) h)
  by_call site (calls.AssertAccess x true) before after plain h = cc
  by_call site (calls.AssertBits x mask) before after plain h =
      one_access site (bytes_in s x) (kinds.Assert NoWrites) (proper_mask (Some mask)) before after _ (tt, (tt, tt)) (ap (λ (p : Progress). p.did) h)
  by_call site (calls.Mark m) before after plain h = quiet s.task site [] before after (happenings.Mark m ∷ []) (tt, tt) (ap (λ (p : Progress). p.did) h)
  by_call site (calls.Check is_write x size) before after plain h =
      by_sized site (size == 0) (checked_bytes s x size) (check_kind is_write) before after (ap (λ (p : Progress). p.did) h)

  -- a loop
  by_turns : (Body : Progress → Progress → Type 0) (site : ℕ) (sites : List Site)
      → ((before after : Progress) → Body before after → Added s.task site sites before after)
      → (r turn left : ℕ) (before after : Progress) → Turns Body r turn left before after → Added s.task site (map (repeated left) sites) before after
  by_turns Body site sites each r turn zero before after h = still s.task site (map (repeated 0) sites) before after (ap (λ (p : Progress). p.did) h)
  by_turns Body site sites each r turn (suc left) before after h =
      let start : Progress = assigning before r turn in
      let p : Added s.task site sites start h.0 = each start h.0 h.1 in
      let q : Added s.task site (map (repeated left) sites) h.0 after = by_turns Body site sites each r (suc turn) left h.0 after h.2 in
      record {
        more = p.more ++ q.more;
        did = q.did ∙ (ap (λ (d : List Happening). d ++ q.more) p.did ∙ append_assoc before.did p.more q.more);
        numbered = are_append s.task site (map (repeated (suc left)) sites) before.did p.more q.more
            (all_by s.task site sites site (map (repeated (suc left)) sites) before.did p.more
            (λ n x has. (repeated (suc left) x, site_map site (suc left) sites n x has, λ rep. refl)) p.numbered)
            (subst (λ (d : List Happening). AreNumbered s.task site (map (repeated (suc left)) sites) d q.more) p.did
            (all_by s.task site (map (repeated left) sites) site (map (repeated (suc left)) sites) h.0.did q.more
            (λ n x has. let found = unmapped site left sites n x has in
            (repeated (suc left) found.0, site_map site (suc left) sites n found.0 found.1, λ rep. ap (λ (y : Site). access_at s.task n y rep) found.2)) q.numbered));
        at_most = λ k.
            let times : ℕ = times_from site sites k in
            let one : times_from site (map (repeated (suc left)) sites) k ≡ suc left * times = times_map site (suc left) sites k in
            let rest : times_from site (map (repeated left) sites) k ≡ left * times = times_map site left sites k in
            let spread : suc left * times ≡ left * times + times = omega arith in
            omega (arith, p.at_most k, q.at_most k, begun_append k p.more q.more);
      }
    where
      unmapped : (first turns : ℕ) (xs : List Site) (n : ℕ) (site : Site) → HasSite first (map (repeated turns) xs) n site
          → (from : Site) × HasSite first xs n from × (site ≡ repeated turns from)
      unmapped first turns [] n site h = absurd h
      unmapped first turns (x ∷ xs) n site h = elim h [
        | inl p ↦ (x, inl (p.0, refl), p.1)
        | inr p ↦ let found = unmapped (suc first) turns xs n site p in (found.0, inr found.1, found.2)
      ]

  -- a statement has as many sites as accesses
  expression_length : (st : Statement) (e : Expression) → length (expression_by (bytes_in s) e) ≡ length (if expression_has_access e then st ∷ [] else [])
  expression_length st (tree.pure e) = refl
  expression_length st (tree.loading e) = refl

  assignment_length : (data_race : Bool) (given : Assignment) → length (assignment_by (bytes_in s) given) ≡ length (accesses_of (tree.assign data_race given))
  assignment_length data_race (tree.to_register r e) = expression_length (tree.assign data_race (tree.to_register r e)) e
  assignment_length data_race (tree.write form x e) = refl
  assignment_length data_race (tree.add x e) = refl
  assignment_length data_race (tree.increment x) = refl
  assignment_length data_race (tree.atomic_add e x) = refl
  assignment_length data_race (tree.atomic_increment x) = refl
  assignment_length data_race (tree.atomic_decrement x) = refl

  sized_length : (empty : Bool) (sites : List Site) (st : Statement) → length sites ≡ 1 → length (if empty then [] else sites) ≡ length (if not empty then st ∷ [] else [])
  sized_length true sites st one = refl
  sized_length false sites st one = one

  call_length : (c : Call) → length (call_by (bytes_in s) c) ≡ length (accesses_of (tree.call c))
  call_length (calls.Barrier b) = refl
  call_length (calls.Lock l) = refl
  call_length (calls.Unlock l) = refl
  call_length (calls.AssertWriter x scoped) = refl
  call_length (calls.AssertAccess x scoped) = refl
  call_length (calls.AssertBits x mask) = refl
  call_length (calls.Mark m) = refl
  call_length (calls.Check is_write x size) = sized_length (size == 0) (once (checked_bytes s x size) (check_kind is_write) None) (tree.call (calls.Check is_write x size)) refl

  mutual
    statement_length : (st : Statement) → length (statement_by (bytes_in s) st) ≡ length (accesses_of st)
    statement_length (tree.load_only l) = refl
    statement_length (tree.assign data_race given) = assignment_length data_race given
    statement_length (tree.call c) = call_length c
    statement_length (tree.if_block e body) =
        length-append (expression_by (bytes_in s) e) (block_sites s body)
        ∙ (two_sums (expression_length (tree.if_block e body) e) (block_length body)
        ∙ sym (length-append (if expression_has_access e then tree.if_block e body ∷ [] else []) (sites_of body)))
    statement_length (tree.if_else e body otherwise) =
        length-append (expression_by (bytes_in s) e) (block_sites s body ++ block_sites s otherwise)
        ∙ (two_sums (expression_length (tree.if_else e body otherwise) e)
        (length-append (block_sites s body) (block_sites s otherwise) ∙ (two_sums (block_length body) (block_length otherwise) ∙ sym (length-append (sites_of body) (sites_of otherwise))))
        ∙ sym (length-append (if expression_has_access e then tree.if_else e body otherwise ∷ [] else []) (sites_of body ++ sites_of otherwise)))
    statement_length (tree.for_turns r turns body) = length-map (block_sites s body) (repeated turns) ∙ block_length body

    pub block_length : (body : Block) → length (block_sites s body) ≡ length (sites_of body)
    block_length tree.empty = refl
    block_length (tree.first st rest) =
        length-append (statement_by (bytes_in s) st) (block_sites s rest)
        ∙ (two_sums (statement_length st) (block_length rest) ∙ sym (length-append (accesses_of st) (sites_of rest)))

  -- the site of a scoped assertion
  abbrev of_scoped : Option Scoped → List Site
  of_scoped None = []
  of_scoped (Some scoped) = once (bytes_in s scoped.variable) scoped.kind None

  condition_site : (site : ℕ) (e : Expression) → after_condition site e ≡ site + length (expression_by (bytes_in s) e)
  condition_site site (tree.pure e) = omega arith
  condition_site site (tree.loading e) = refl

  scoped_sites : (st : Statement) (scoped : Scoped) → scoped_assertion st ≡ Some scoped → statement_by (bytes_in s) st ≡ once (bytes_in s scoped.variable) scoped.kind None
  scoped_sites (tree.load_only l) scoped is = cc
  scoped_sites (tree.assign data_race given) scoped is = cc
  scoped_sites (tree.call (calls.Barrier b)) scoped is = cc
  scoped_sites (tree.call (calls.Lock l)) scoped is = cc
  scoped_sites (tree.call (calls.Unlock l)) scoped is = cc
  scoped_sites (tree.call (calls.AssertWriter x false)) scoped is = cc
  scoped_sites (tree.call (calls.AssertWriter x true)) scoped is = ap (λ (o : Option Scoped). of_scoped o) is
  scoped_sites (tree.call (calls.AssertAccess x false)) scoped is = cc
  scoped_sites (tree.call (calls.AssertAccess x true)) scoped is = ap (λ (o : Option Scoped). of_scoped o) is
  scoped_sites (tree.call (calls.AssertBits x mask)) scoped is = cc
  scoped_sites (tree.call (calls.Mark m)) scoped is = cc
  scoped_sites (tree.call (calls.Check is_write x size)) scoped is = cc
  scoped_sites (tree.if_block e body) scoped is = cc
  scoped_sites (tree.if_else e body otherwise) scoped is = cc
  scoped_sites (tree.for_turns r turns body) scoped is = cc

  by_block_of : (site : ℕ) (st : Statement) (later : List Site) (scoped : Option Scoped) → scoped_assertion st ≡ scoped
      → (Own Rest : Progress → Progress → Type 0)
      → (scoped ≡ None → (before after : Progress) → Own before after → Added s.task site (statement_by (bytes_in s) st) before after)
      → ((before after : Progress) → Rest before after → Added s.task (site + length (statement_by (bytes_in s) st)) later before after)
      → (before after : Progress) → InBlock s site scoped Own Rest before after → Added s.task site (statement_by (bytes_in s) st ++ later) before after
  by_block_of site st later None is Own Rest own rest before after h =
      followed s.task site (statement_by (bytes_in s) st) later before h.0 after (own refl before h.0 h.1) (rest h.0 after h.2)
  by_block_of site st later (Some scoped) is Own Rest own rest before after h =
      let a : Access = scoped_access s site before scoped in
      let opened : Progress = doing before (happenings.Begin a ∷ []) in
      let first : Added s.task site (statement_by (bytes_in s) st) before opened =
      subst (λ (xs : List Site). Added s.task site xs before opened) (sym (scoped_sites st scoped is))
      (one_access site (bytes_in s scoped.variable) scoped.kind None before opened [] tt refl) in
      before_quiet s.task site (statement_by (bytes_in s) st ++ later) before h.0 after (happenings.End a ∷ [])
      (followed s.task site (statement_by (bytes_in s) st) later before opened h.0 first (rest opened h.0 h.1)) (tt, tt) (ap (λ (p : Progress). p.did) h.2)

  mutual
    by_statement : (site : ℕ) (st : Statement) → scoped_assertion st ≡ None → (before after : Progress) → Means s site st before after
        → Added s.task site (statement_by (bytes_in s) st) before after
    by_statement site (tree.load_only l) plain before after h = by_load site l before h.0 after h.1
    by_statement site (tree.assign data_race given) plain before after h = by_data_race site data_race given before after h
    by_statement site (tree.call c) plain before after h = by_call site c before after plain h
    by_statement site (tree.if_block e body) plain before after h =
        followed s.task site (expression_by (bytes_in s) e) (block_sites s body) before h.1 after (by_expression site e before h.0 h.1 h.2)
        (elim h.3 [
          | inl p ↦ by_block (site + length (expression_by (bytes_in s) e)) body h.1 after (subst (λ (n : ℕ). MeansBlock s n body h.1 after) (condition_site site e) p.1)
          | inr p ↦ still s.task (site + length (expression_by (bytes_in s) e)) (block_sites s body) h.1 after (ap (λ (p : Progress). p.did) p.1)
        ])
    by_statement site (tree.if_else e body otherwise) plain before after h =
        let next : ℕ = site + length (expression_by (bytes_in s) e) in
        followed s.task site (expression_by (bytes_in s) e) (block_sites s body ++ block_sites s otherwise) before h.1 after (by_expression site e before h.0 h.1 h.2)
        (elim h.3 [
          | inl p ↦ widened s.task next (block_sites s body) (block_sites s otherwise) h.1 after
              (by_block next body h.1 after (subst (λ (n : ℕ). MeansBlock s n body h.1 after) (condition_site site e) p.1))
          | inr p ↦ shifted s.task next (block_sites s body) (block_sites s otherwise) h.1 after
              (by_block (next + length (block_sites s body)) otherwise h.1 after
              (subst (λ (n : ℕ). MeansBlock s n otherwise h.1 after) (two_sums (condition_site site e) (sym (block_length body))) p.1))
        ])
    by_statement site (tree.for_turns r turns body) plain before after h =
        by_turns (λ start end. MeansBlock s site body start end) site (block_sites s body) (λ start end p. by_block site body start end p) r 0 turns before after h

    -- what a block did, from a number of its first site on
    pub by_block : (site : ℕ) (body : Block) (before after : Progress) → MeansBlock s site body before after → Added s.task site (block_sites s body) before after
    by_block site tree.empty before after h = still s.task site [] before after (ap (λ (p : Progress). p.did) h)
    by_block site (tree.first st more) before after h =
        by_block_of site st (block_sites s more) (scoped_assertion st) refl
        (λ start end. Means s site st start end)
        (λ start end. MeansBlock s (site + length (accesses_of st)) more start end)
        (λ plain start end p. by_statement site st plain start end p)
        (λ start end p. by_block (site + length (statement_by (bytes_in s) st)) more start end
        (subst (λ (n : ℕ). MeansBlock s n more start end) (ap (λ (n : ℕ). site + n) (sym (statement_length st))) p))
        before after h
