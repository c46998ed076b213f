-- Which accesses of a task are in progress after it did more.
use native.Mathlib.Omega.{arith}
use Rattle.std.proofs.Common.{[], ◌++◌, ◌+◌, ◌<◌, ◌↔◌, ◌∙◌, ◌∷◌, ◌≡◌, ◌≢◌, ◌⊎◌, AllPairs, Bool, Contains, IsTrue, List, ℕ, ap, append_assoc, cond}
use Rattle.std.proofs.Common.{count_by, false, inl, inr, length, refl, subst, sym, true}
use Rattle.std.proofs.lemmas.Bool.{eq-eqb}
use Rattle.std.proofs.lemmas.List.{get_or_append_left, get_or_push, length-append, map-append}
use Rattle.std.proofs.lemmas.List.Elements.{Contains-append_cases, Contains-append_left, Contains-append_right, Contains-get_or, Contains-push}
use Rattle.std.proofs.lemmas.List.Elements.{Contains-push_cases, filter-append}
use Rattle.std.proofs.lemmas.List.Quantifiers.{all_pairs_push}
use Rattle.std.proofs.lemmas.List.Sums.{sum_by-append, sum_by-cons}
use Rattle.access_types.specs.Access.{Access}
use Rattle.access_types.specs.History.{History, beginning}
use Rattle.access_types.specs.Marked.{BeginsAfter, CountedAsMarked, CountsAfter, EndsRaised, Silenced, is_disable, is_enable, marks_of}
use Rattle.access_types.specs.declared.history.Happening.{Happening}
use Rattle.access_types.specs.declared.history.Happening.TheVariants.{Begin, End}
use Rattle.access_types.specs.declared.history.Moment.{Moment}
use Rattle.litmus_semantics.specs.Task.{begins_at}
use Rattle.program_order.specs.InProgress.{AccessesAreTold, IsInProgressAs, bounds_of, clock_steps, is_bound, moments_by}
use Rattle.program_order.specs.Standing.{BeginsNow, Setting, Standing}
use Rattle.setup_access.proofs.Compared.{begun_is}
use Rattle.setup_access.specs.declared.begun.Begun.{Begun}
use Rattle.slot_table.specs.declared.records.Record.{Record}
use Rattle.task_plan.proofs.StepsLemmas.{through}
use Rattle.task_run.proofs.EndLemmas.{one_answer}
use Rattle.task_run.specs.Accesses.{RepeatsAreTold}
use Rattle.task_run.specs.Position.{AreOfNoBound}

none_in : {A : Type 0} (x : A) → ¬ Contains [] x
none_in x h = let less = h.1 in absurd (omega (arith, less))

only_one : {A : Type 0} (y x : A) → Contains (y ∷ []) x → y ≡ x
only_one y x h = elim (Contains-push_cases [] y x h) [ inl none ↦ absurd (none_in x none) | inr same ↦ same ]

first_or_later : {A : Type 0} (y : A) (ys : List A) (x : A) → Contains (y ∷ ys) x → (y ≡ x) ⊎ Contains ys x
first_or_later y ys x h = elim (Contains-append_cases (y ∷ []) ys x h) [ inl one ↦ inl (only_one y x one) | inr more ↦ inr more ]

at_front : {A : Type 0} (x : A) (xs : List A) → Contains (x ∷ xs) x
at_front x xs = Contains-append_left (x ∷ []) xs x (Contains-push [] x)

further : {A : Type 0} (y : A) (ys : List A) (x : A) → Contains ys x → Contains (y ∷ ys) x
further y ys x h = Contains-append_right (y ∷ []) ys x h

-- what stands in a list and not in its second part stands in its first
split_front : {A : Type 0} (xs ys before : List A) (x : A) (later : List A) → xs ++ ys ≡ before ++ x ∷ later → ¬ Contains ys x
    → (rest : List A) × (xs ≡ before ++ x ∷ rest)
split_front [] ys before x later is none =
    absurd (none (subst (λ l. Contains l x) (sym is) (Contains-append_right before (x ∷ later) x (at_front x later))))
split_front (y ∷ xs) ys [] x later is none = let first : y ≡ x = cc in (xs, ap (λ z. z ∷ xs) first)
split_front (y ∷ xs) ys (z ∷ before) x later is none =
    let tails : xs ++ ys ≡ before ++ x ∷ later = cc in
    let first : y ≡ z = cc in
    let more = split_front xs ys before x later tails none in
    (more.0, ap (λ w. w ∷ xs) first ∙ ap (λ l. z ∷ l) more.1)

-- what stands in a list once has one beginning before it
split_alone : {A : Type 0} (xs ys before : List A) (x : A) (later : List A) → xs ++ x ∷ ys ≡ before ++ x ∷ later → ¬ Contains xs x → ¬ Contains ys x
    → before ≡ xs
split_alone [] ys [] x later is first none = refl
split_alone [] ys (z ∷ before) x later is first none =
    let tails : ys ≡ before ++ x ∷ later = cc in
    absurd (none (subst (λ l. Contains l x) (sym tails) (Contains-append_right before (x ∷ later) x (at_front x later))))
split_alone (y ∷ xs) ys [] x later is first none =
    let same : y ≡ x = cc in absurd (first (subst (λ z. Contains (z ∷ xs) x) (sym same) (at_front x xs)))
split_alone (y ∷ xs) ys (z ∷ before) x later is first none =
    let tails : xs ++ x ∷ ys ≡ before ++ x ∷ later = cc in
    let same : y ≡ z = cc in
    ap (λ w. w ∷ before) (sym same) ∙ ap (λ l. y ∷ l) (split_alone xs ys before x later tails (λ h. first (further y xs x h)) none)

-- neither begins nor ends an access
pub no_begin : (does : List Happening) → AreOfNoBound does → (a : Access) → ¬ Contains does (Begin a)
no_begin [] none a h = none_in (Begin a) h
no_begin (happening ∷ later) none a h = elim (first_or_later happening later (Begin a) h) [
  | inl same ↦ absurd (let no : true ≡ false = ap is_bound (sym same) ∙ none.0 in cc)
  | inr more ↦ no_begin later none.1 a more
]

pub no_end : (does : List Happening) → AreOfNoBound does → (a : Access) → ¬ Contains does (End a)
no_end [] none a h = none_in (End a) h
no_end (happening ∷ later) none a h = elim (first_or_later happening later (End a) h) [
  | inl same ↦ absurd (let no : true ≡ false = ap is_bound (sym same) ∙ none.0 in cc)
  | inr more ↦ no_end later none.1 a more
]

no_bounds : (does : List Happening) → AreOfNoBound does → bounds_of does ≡ []
no_bounds [] none = refl
no_bounds (happening ∷ later) none = rw none.0 (no_bounds later none.1)

bounds_both : (did more : List Happening) → length (bounds_of (did ++ more)) ≡ length (bounds_of did) + length (bounds_of more)
bounds_both did more = ap length (filter-append is_bound did more) ∙ length-append (bounds_of did) (bounds_of more)

-- how many accesses begin at a site
begun_both : (site : ℕ) (did more : List Happening) → count_by (begins_at site) (did ++ more) ≡ count_by (begins_at site) did + count_by (begins_at site) more
begun_both site did more = sum_by-append (λ (h : Happening). cond (begins_at site h) 1 0) did more

begun_first : (a : Access) (more : List Happening) → count_by (begins_at a.site) (Begin a ∷ more) ≡ 1 + count_by (begins_at a.site) more
begun_first a more =
    let counted : cond {A = ℕ} (begins_at a.site (Begin a)) 1 0 ≡ 1 = ap (λ (b : Bool). cond {A = ℕ} b 1 0) (eq-eqb a.site a.site refl) in
    sum_by-cons (λ (h : Happening). cond (begins_at a.site h) 1 0) (Begin a) more ∙ ap (λ (n : ℕ). n + count_by (begins_at a.site) more) counted

-- no scoped assertion twice
abbrev AreApart : List Begun → Type 0
AreApart scopes = AllPairs (λ one other. one ≢ other) scopes

apart_more : (scopes : List Begun) (newest : Begun) → AreApart scopes → ¬ Contains scopes newest → AreApart (scopes ++ newest ∷ [])
apart_more scopes newest apart none = all_pairs_push (λ one other. one ≢ other) scopes newest apart
    (λ k d below same. none (subst (λ (b : Begun). Contains scopes b) same (Contains-get_or scopes k d below)))

apart_front : (scopes : List Begun) (newest : Begun) → AreApart (scopes ++ newest ∷ []) → AreApart scopes × (¬ Contains scopes newest)
apart_front scopes newest apart =
    let long = length-append scopes (newest ∷ []) in (
      λ i j d before below same. apart i j d before (omega (arith, below, long))
          (get_or_append_left scopes (newest ∷ []) d i (omega (arith, before, below)) ∙ (same ∙ sym (get_or_append_left scopes (newest ∷ []) d j below))),
      λ h. apart h.0 (length scopes) newest h.1 (omega (arith, long))
          (get_or_append_left scopes (newest ∷ []) newest h.0 h.1 ∙ (h.2 ∙ sym (get_or_push scopes newest newest (length scopes) refl))),
    )

-- What is told of a task that did this, with so many steps of the clock: each of them began or ended an access, and
-- these are the accesses in progress.
pub record Told (s : Setting) (stamps : ℕ) (did : List Happening) (scopes : List Begun) : Type 0 where
  pub stamped : length (bounds_of did) ≡ stamps
  pub tells : (begun : Begun) → Contains scopes begun ↔ IsInProgressAs s did begun
  pub below : (a : Access) → Contains did (Begin a) → a.rep < count_by (begins_at a.site) did
  pub ended : (a : Access) → Contains did (End a) → Contains did (Begin a)
  pub apart : AreApart scopes

-- what a task did with an access, up to its end
abbrev ending : List Happening → Access → List Happening
ending does a = does ++ End a ∷ []

module _ (s : Setting) where
  abbrev moment_of : Happening → Moment
  moment_of happening = record { task = s.text.task; happening = happening }

  pub told_at : (records : List Record) (before : Standing) → AccessesAreTold s records before → RepeatsAreTold before
      → Told s (clock_steps records) before.progress.did before.scopes
  told_at records before accesses repeats = record {
    stamped = accesses.stamped;
    tells = accesses.scopes;
    below = repeats.below;
    ended = repeats.ended;
    apart = repeats.apart;
  }

  pub accesses_told : (records : List Record) (before : Standing) → Told s (clock_steps records) before.progress.did before.scopes
      → AccessesAreTold s records before
  accesses_told records before told = record { stamped = told.stamped; scopes = told.tells }

  pub repeats_told : (stamps : ℕ) (before : Standing) → Told s stamps before.progress.did before.scopes → RepeatsAreTold before
  repeats_told stamps before told = record { below = told.below; ended = told.ended; apart = told.apart }

  in_moments : (did : List Happening) (a : Access) → Contains (moments_by s did) (beginning a) → Contains did (Begin a)
  in_moments [] a h = absurd (none_in (beginning a) h)
  in_moments (first ∷ later) a h = elim (first_or_later (moment_of first) (moments_by s later) (beginning a) h) [
    | inl same ↦ subst (λ (x : Happening). Contains (x ∷ later) (Begin a)) (sym (ap (λ (m : Moment). m.happening) same)) (at_front (Begin a) later)
    | inr more ↦ further first later (Begin a) (in_moments later a more)
  ]

  -- where an access begins stays the same after the task did more
  begins_front : (did more : List Happening) (a : Access) (before : History) → ¬ Contains more (Begin a) → BeginsAfter (moments_by s (did ++ more)) a before
      → BeginsAfter (moments_by s did) a before
  begins_front did more a before none begins =
      let joined : moments_by s did ++ moments_by s more ≡ before ++ beginning a ∷ begins.later = sym (map-append moment_of did more) ∙ begins.split in
      let front = split_front (moments_by s did) (moments_by s more) before (beginning a) begins.later joined (λ h. none (in_moments more a h)) in
      record { later = front.0; split = front.1 }

  begins_on : (did more : List Happening) (a : Access) (before : History) → BeginsAfter (moments_by s did) a before
      → BeginsAfter (moments_by s (did ++ more)) a before
  begins_on did more a before begins = record {
    later = begins.later ++ moments_by s more;
    split = map-append moment_of did more
        ∙ (ap (λ (h : History). h ++ moments_by s more) begins.split ∙ append_assoc before (beginning a ∷ begins.later) (moments_by s more));
  }

  is_moment : (a : Access) → a.task ≡ s.text.task → moment_of (Begin a) ≡ beginning a
  is_moment a own = ap (λ (t : ℕ). record { task = t; happening = Begin a }) (sym own)

  begins_here : (did more : List Happening) (a : Access) → a.task ≡ s.text.task → BeginsAfter (moments_by s (did ++ Begin a ∷ more)) a (moments_by s did)
  begins_here did more a own = record {
    later = moments_by s more;
    split = map-append moment_of did (Begin a ∷ more) ∙ ap (λ (m : Moment). moments_by s did ++ m ∷ moments_by s more) (is_moment a own);
  }

  begins_alone : (did more : List Happening) (a : Access) (before : History) → a.task ≡ s.text.task → ¬ Contains did (Begin a) → ¬ Contains more (Begin a)
      → BeginsAfter (moments_by s (did ++ Begin a ∷ more)) a before → before ≡ moments_by s did
  begins_alone did more a before own first none begins =
      let joined : moments_by s did ++ beginning a ∷ moments_by s more ≡ before ++ beginning a ∷ begins.later =
      ap (λ (m : Moment). moments_by s did ++ m ∷ moments_by s more) (sym (is_moment a own))
      ∙ (sym (map-append moment_of did (Begin a ∷ more)) ∙ begins.split) in
      split_alone (moments_by s did) (moments_by s more) before (beginning a) begins.later joined
      (λ h. first (in_moments did a h)) (λ h. none (in_moments more a h))

  marked_on : (plain : Bool) (did more : List Happening) (a : Access) → ¬ Contains more (Begin a)
      → (CountedAsMarked plain (moments_by s (did ++ more)) a ↔ CountedAsMarked plain (moments_by s did) a)
  marked_on plain did more a none = (
    λ h. record { before = h.before; begins = begins_front did more a h.before none h.begins; counts = h.counts },
    λ h. record { before = h.before; begins = begins_on did more a h.before h.begins; counts = h.counts },
  )

  silenced_on : (did more : List Happening) (a : Access) → ¬ Contains more (Begin a)
      → (Silenced (moments_by s (did ++ more)) a ↔ Silenced (moments_by s did) a)
  silenced_on did more a none = (
    λ h. record { before = h.before; begins = begins_front did more a h.before none h.begins; disabled = h.disabled },
    λ h. record { before = h.before; begins = begins_on did more a h.before h.begins; disabled = h.disabled },
  )

  -- an access is in progress as before where the task began and ended others
  still : (did more : List Happening) (begun : Begun) → ¬ Contains more (Begin begun.access) → ¬ Contains more (End begun.access)
      → (IsInProgressAs s (did ++ more) begun ↔ IsInProgressAs s did begun)
  still did more begun none_begin none_end =
      let marked = marked_on s.rules.plain_writes_atomic did more begun.access none_begin in
      let silenced = silenced_on did more begun.access none_begin in (
        λ h. record {
          own = h.own;
          in_progress = record {
            begun = elim (Contains-append_cases did more (Begin begun.access) h.in_progress.begun) [
              | inl there ↦ there
              | inr never ↦ absurd (none_begin never)
            ];
            unended = λ ends. h.in_progress.unended (Contains-append_left did more (End begun.access) ends);
          };
          marked = through h.marked marked;
          silenced = through h.silenced silenced;
        },
        λ h. record {
          own = h.own;
          in_progress = record {
            begun = Contains-append_left did more (Begin begun.access) h.in_progress.begun;
            unended = λ ends. elim (Contains-append_cases did more (End begun.access) ends) [
              | inl there ↦ h.in_progress.unended there
              | inr never ↦ none_end never
            ];
          };
          marked = through h.marked (marked.1, marked.0);
          silenced = through h.silenced (silenced.1, silenced.0);
        },
      )

  -- one that begins is, if it did not begin before
  begins_own : (before : Standing) (begun : Begun) (more : List Happening) → BeginsNow s before begun.access begun
      → ¬ Contains before.progress.did (Begin begun.access) → ¬ Contains before.progress.did (End begun.access) → AreOfNoBound more
      → IsInProgressAs s (before.progress.did ++ Begin begun.access ∷ more) begun
  begins_own before begun more begins none_begin none_end quiet =
      let a = begun.access in
      let did = before.progress.did in
      let own : a.task ≡ s.text.task = begins.own.task in
      let here = begins_here did more a own in
      let alone : (earlier : History) → BeginsAfter (moments_by s (did ++ Begin a ∷ more)) a earlier → earlier ≡ moments_by s did =
      λ earlier at. begins_alone did more a earlier own none_begin (no_begin more quiet a) at in
      record {
        own = own;
        in_progress = record {
          begun = Contains-append_right did (Begin a ∷ more) (Begin a) (at_front (Begin a) more);
          unended = λ ends. elim (Contains-append_cases did (Begin a ∷ more) (End a) ends) [
            | inl there ↦ none_end there
            | inr later ↦ elim (first_or_later (Begin a) more (End a) later) [
              | inl same ↦ absurd (let no : Begin a ≡ End a = same in cc)
              | inr there ↦ no_end more quiet a there
            ]
          ];
        };
        marked = through begins.marked (
          λ counts. record { before = moments_by s did; begins = here; counts = counts },
          λ h. subst (CountsAfter s.rules.plain_writes_atomic a) (alone h.before h.begins) h.counts,
        );
        silenced = through begins.silenced (
          λ off. record {
            before = moments_by s did;
            begins = here;
            disabled = subst (λ (t : ℕ). EndsRaised is_disable is_enable (marks_of t (moments_by s did))) (sym own) off;
          },
          λ h. subst (λ (t : ℕ). EndsRaised is_disable is_enable (marks_of t (moments_by s did))) own
              (subst (λ (m : History). EndsRaised is_disable is_enable (marks_of a.task m)) (alone h.before h.begins) h.disabled),
        );
      }

  begins_as : (before : Standing) (a : Access) (begun : Begun) (more : List Happening) → BeginsNow s before a begun
      → ¬ Contains before.progress.did (Begin a) → ¬ Contains before.progress.did (End a) → AreOfNoBound more
      → IsInProgressAs s (before.progress.did ++ Begin a ∷ more) begun
  begins_as before a begun more begins =
      let Goal : Access → Type 0 = λ x. BeginsNow s before x begun → ¬ Contains before.progress.did (Begin x) → ¬ Contains before.progress.did (End x)
      → AreOfNoBound more → IsInProgressAs s (before.progress.did ++ Begin x ∷ more) begun in
      let here : Goal begun.access = begins_own before begun more in
      let there : Goal a = subst Goal begins.access here in
      there begins

  -- and with what is decided of it, it is one
  one_access : (did : List Happening) (one other : Begun) → IsInProgressAs s did one → IsInProgressAs s did other → one.access ≡ other.access → one ≡ other
  one_access did one other p q same = begun_is one other same
      (one_answer one.marked other.marked (CountedAsMarked s.rules.plain_writes_atomic (moments_by s did) other.access)
      (subst (λ (a : Access). IsTrue one.marked ↔ CountedAsMarked s.rules.plain_writes_atomic (moments_by s did) a) same p.marked) q.marked)
      (one_answer one.silenced other.silenced (Silenced (moments_by s did) other.access)
      (subst (λ (a : Access). IsTrue one.silenced ↔ Silenced (moments_by s did) a) same p.silenced) q.silenced)

  pub told_first : Told s 0 [] []
  told_first = record {
    stamped = refl;
    tells = λ begun. (λ h. absurd (none_in begun h), λ p. absurd (none_in (Begin begun.access) p.in_progress.begun));
    below = λ a h. absurd (none_in (Begin a) h);
    ended = λ a h. absurd (none_in (End a) h);
    apart = λ i j d before below. absurd (omega (arith, below));
  }

  module _ (stamps : ℕ) (did : List Happening) (scopes : List Begun) (told : Told s stamps did scopes) where
    -- after what begins and ends no access
    pub told_quiet : (does : List Happening) → AreOfNoBound does → Told s stamps (did ++ does) scopes
    told_quiet does none = record {
      stamped =
          let both = bounds_both did does in
          let nothing : length (bounds_of does) ≡ 0 = ap length (no_bounds does none) in
          let were = told.stamped in omega (arith, both, nothing, were);
      tells = λ begun.
          let on = still did does begun (no_begin does none begun.access) (no_end does none begun.access) in
          through (told.tells begun) (on.1, on.0);
      below = λ a h. elim (Contains-append_cases did does (Begin a) h) [
        | inl there ↦ let less = told.below a there in let both = begun_both a.site did does in omega (arith, less, both)
        | inr never ↦ absurd (no_begin does none a never)
      ];
      ended = λ a h. elim (Contains-append_cases did does (End a) h) [
        | inl there ↦ Contains-append_left did does (Begin a) (told.ended a there)
        | inr never ↦ absurd (no_end does none a never)
      ];
      apart = told.apart;
    }

    module _ (a : Access) (new : a.rep ≡ count_by (begins_at a.site) did) where
      fresh : ¬ Contains did (Begin a)
      fresh h = let less = told.below a h in absurd (omega (arith, less, new))

      unended : ¬ Contains did (End a)
      unended h = fresh (told.ended a h)

      -- those in progress are others
      other : (begun : Begun) → IsInProgressAs s did begun → ¬ (a ≡ begun.access)
      other begun p same = fresh (subst (λ (x : Access). Contains did (Begin x)) (sym same) p.in_progress.begun)

      more_below : (tail : List Happening) (c : Access) → Contains (did ++ Begin a ∷ tail) (Begin c) → (Contains tail (Begin c) → a ≡ c)
          → c.rep < count_by (begins_at c.site) (did ++ Begin a ∷ tail)
      more_below tail c h only =
          let counted : a.rep < count_by (begins_at a.site) (did ++ Begin a ∷ tail) =
          let both = begun_both a.site did (Begin a ∷ tail) in let one = begun_first a tail in omega (arith, both, one, new) in
          let itself : a ≡ c → c.rep < count_by (begins_at c.site) (did ++ Begin a ∷ tail) =
          λ same. subst (λ (x : Access). x.rep < count_by (begins_at x.site) (did ++ Begin a ∷ tail)) same counted in
          elim (Contains-append_cases did (Begin a ∷ tail) (Begin c) h) [
            | inl there ↦ let less = told.below c there in let both = begun_both c.site did (Begin a ∷ tail) in omega (arith, less, both)
            | inr later ↦ elim (first_or_later (Begin a) tail (Begin c) later) [
              | inl same ↦ itself (let one : Begin a ≡ Begin c = same in cc)
              | inr there ↦ itself (only there)
            ]
          ]

      -- after a whole access
      pub told_access : (does : List Happening) → AreOfNoBound does → Told s (stamps + 2) (did ++ Begin a ∷ ending does a) scopes
      told_access does none = record {
        stamped =
            let both = bounds_both did (Begin a ∷ ending does a) in
            let own = bounds_both does (End a ∷ []) in
            let nothing : length (bounds_of does) ≡ 0 = ap length (no_bounds does none) in
            let were = told.stamped in omega (arith, both, own, nothing, were);
        tells = λ begun. (
          λ h. let p = (told.tells begun).0 h in
              (still did (Begin a ∷ ending does a) begun (λ t. other begun p (begins_only begun.access t)) (λ t. other begun p (ends_only begun.access t))).1 p,
          λ p. let apart : ¬ (a ≡ begun.access) = λ same.
              p.in_progress.unended (subst (λ (x : Access). Contains (did ++ Begin a ∷ ending does a) (End x)) same ends) in
              (told.tells begun).1
              ((still did (Begin a ∷ ending does a) begun (λ t. apart (begins_only begun.access t)) (λ t. apart (ends_only begun.access t))).0 p),
        );
        below = λ c h. more_below (ending does a) c h (λ t. begins_only c (further (Begin a) (ending does a) (Begin c) t));
        ended = λ c h. elim (Contains-append_cases did (Begin a ∷ ending does a) (End c) h) [
          | inl there ↦ Contains-append_left did (Begin a ∷ ending does a) (Begin c) (told.ended c there)
          | inr later ↦ subst (λ (x : Access). Contains (did ++ Begin a ∷ ending does a) (Begin x)) (ends_only c later)
              (Contains-append_right did (Begin a ∷ ending does a) (Begin a) (at_front (Begin a) (ending does a)))
        ];
        apart = told.apart;
      }
        where
          ends : Contains (did ++ Begin a ∷ ending does a) (End a)
          ends = Contains-append_right did (Begin a ∷ ending does a) (End a) (further (Begin a) (ending does a) (End a) (Contains-push does (End a)))

          begins_only : (c : Access) → Contains (Begin a ∷ ending does a) (Begin c) → a ≡ c
          begins_only c h = elim (first_or_later (Begin a) (ending does a) (Begin c) h) [
            | inl same ↦ let one : Begin a ≡ Begin c = same in cc
            | inr later ↦ elim (Contains-push_cases does (End a) (Begin c) later) [
              | inl there ↦ absurd (no_begin does none c there)
              | inr same ↦ absurd (let no : End a ≡ Begin c = same in cc)
            ]
          ]

          ends_only : (c : Access) → Contains (Begin a ∷ ending does a) (End c) → a ≡ c
          ends_only c h = elim (first_or_later (Begin a) (ending does a) (End c) h) [
            | inl same ↦ absurd (let no : Begin a ≡ End c = same in cc)
            | inr later ↦ elim (Contains-push_cases does (End a) (End c) later) [
              | inl there ↦ absurd (no_end does none c there)
              | inr same ↦ let one : End a ≡ End c = same in cc
            ]
          ]

    -- after the end of the newest scoped assertion in force
    pub told_closing : (fewer : List Begun) (newest : Begun) → scopes ≡ fewer ++ newest ∷ [] → Told s (stamps + 1) (did ++ End newest.access ∷ []) fewer
    told_closing fewer newest are = record {
      stamped = let both = bounds_both did (End newest.access ∷ []) in let were = told.stamped in omega (arith, both, were);
      tells = λ begun. (
        λ h. let p = tells_of begun (Contains-append_left fewer (newest ∷ []) begun h) in
            let apart : ¬ (newest.access ≡ begun.access) = λ same.
            alone.1 (subst (λ (b : Begun). Contains fewer b) (sym (one_access did newest begun now p same)) h) in
            (still did (End newest.access ∷ []) begun (no_begins begun.access) (λ t. apart (ends_only begun.access t))).1 p,
        λ p. let apart : ¬ (newest.access ≡ begun.access) = λ same.
            p.in_progress.unended (subst (λ (x : Access). Contains (did ++ End newest.access ∷ []) (End x)) same (Contains-push did (End newest.access))) in
            let there : Contains scopes begun =
            (told.tells begun).1 ((still did (End newest.access ∷ []) begun (no_begins begun.access) (λ t. apart (ends_only begun.access t))).0 p) in
            elim (Contains-push_cases fewer newest begun (subst (λ (l : List Begun). Contains l begun) are there)) [
              | inl in_front ↦ in_front
              | inr same ↦ absurd (apart (ap (λ (b : Begun). b.access) same))
            ],
      );
      below = λ c h. elim (Contains-append_cases did (End newest.access ∷ []) (Begin c) h) [
        | inl there ↦ let less = told.below c there in let both = begun_both c.site did (End newest.access ∷ []) in omega (arith, less, both)
        | inr never ↦ absurd (no_begins c never)
      ];
      ended = λ c h. elim (Contains-append_cases did (End newest.access ∷ []) (End c) h) [
        | inl there ↦ Contains-append_left did (End newest.access ∷ []) (Begin c) (told.ended c there)
        | inr here ↦ Contains-append_left did (End newest.access ∷ []) (Begin c)
            (subst (λ (x : Access). Contains did (Begin x)) (ends_only c here) now.in_progress.begun)
      ];
      apart = alone.0;
    }
      where
        tells_of : (begun : Begun) → Contains (fewer ++ newest ∷ []) begun → IsInProgressAs s did begun
        tells_of begun h = (told.tells begun).0 (subst (λ (l : List Begun). Contains l begun) (sym are) h)

        now : IsInProgressAs s did newest
        now = tells_of newest (Contains-push fewer newest)

        alone : AreApart fewer × (¬ Contains fewer newest)
        alone = apart_front fewer newest (subst (λ (l : List Begun). AreApart l) are told.apart)

        no_begins : (c : Access) → ¬ Contains (End newest.access ∷ []) (Begin c)
        no_begins c h = absurd (let no : End newest.access ≡ Begin c = only_one (End newest.access) (Begin c) h in cc)

        ends_only : (c : Access) → Contains (End newest.access ∷ []) (End c) → newest.access ≡ c
        ends_only c h = let one : End newest.access ≡ End c = only_one (End newest.access) (End c) h in cc

  -- after the begin of an access, whatever it did besides
  pub told_begin : (stamps : ℕ) (before : Standing) (scopes : List Begun) → Told s stamps before.progress.did scopes → (a : Access) (begun : Begun)
      → a.rep ≡ count_by (begins_at a.site) before.progress.did → BeginsNow s before a begun → (does : List Happening) → AreOfNoBound does
      → Told s (stamps + 1) (before.progress.did ++ Begin a ∷ does) (scopes ++ begun ∷ [])
  told_begin stamps before scopes told a begun new begins does none = record {
    stamped =
        let both = bounds_both before.progress.did (Begin a ∷ does) in
        let nothing : length (bounds_of does) ≡ 0 = ap length (no_bounds does none) in
        let were = told.stamped in omega (arith, both, nothing, were);
    tells = λ one. (
      λ h. elim (Contains-push_cases scopes begun one h) [
        | inl there ↦ let p = (told.tells one).0 there in
            (still before.progress.did (Begin a ∷ does) one (λ t. differs one p (begins_only one.access t)) (no_ends one.access)).1 p
        | inr same ↦ subst (λ (b : Begun). IsInProgressAs s (before.progress.did ++ Begin a ∷ does) b) same now
      ],
      λ p. elim (Contains-append_cases before.progress.did (Begin a ∷ does) (Begin one.access) p.in_progress.begun) [
        | inl there ↦
            let apart : ¬ (a ≡ one.access) = λ same. is_fresh (subst (λ (x : Access). Contains before.progress.did (Begin x)) (sym same) there) in
            Contains-append_left scopes (begun ∷ []) one ((told.tells one).1
            ((still before.progress.did (Begin a ∷ does) one (λ t. apart (begins_only one.access t)) (no_ends one.access)).0 p))
        | inr here ↦
            let same : begun ≡ one = one_access (before.progress.did ++ Begin a ∷ does) begun one now p (begins.access ∙ begins_only one.access here) in
            subst (λ (b : Begun). Contains (scopes ++ begun ∷ []) b) same (Contains-push scopes begun)
      ],
    );
    below = λ c h. more_below stamps before.progress.did scopes told a new does c h (λ t. absurd (no_begin does none c t));
    ended = λ c h. elim (Contains-append_cases before.progress.did (Begin a ∷ does) (End c) h) [
      | inl there ↦ Contains-append_left before.progress.did (Begin a ∷ does) (Begin c) (told.ended c there)
      | inr never ↦ absurd (no_ends c never)
    ];
    apart = apart_more scopes begun told.apart (λ h. differs begun ((told.tells begun).0 h) (sym begins.access));
  }
    where
      is_fresh : ¬ Contains before.progress.did (Begin a)
      is_fresh = fresh stamps before.progress.did scopes told a new

      differs : (one : Begun) → IsInProgressAs s before.progress.did one → ¬ (a ≡ one.access)
      differs = other stamps before.progress.did scopes told a new

      now : IsInProgressAs s (before.progress.did ++ Begin a ∷ does) begun
      now = begins_as before a begun does begins is_fresh (unended stamps before.progress.did scopes told a new) none

      begins_only : (c : Access) → Contains (Begin a ∷ does) (Begin c) → a ≡ c
      begins_only c h = elim (first_or_later (Begin a) does (Begin c) h) [
        | inl same ↦ let one : Begin a ≡ Begin c = same in cc
        | inr there ↦ absurd (no_begin does none c there)
      ]

      no_ends : (c : Access) → ¬ Contains (Begin a ∷ does) (End c)
      no_ends c h = elim (first_or_later (Begin a) does (End c) h) [
        | inl same ↦ absurd (let no : Begin a ≡ End c = same in cc)
        | inr there ↦ no_end does none c there
      ]
