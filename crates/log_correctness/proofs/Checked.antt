-- What comes of checks is of accesses that have begun, and a verdict of one that is watched.
use Rattle.std.proofs.Common.{◌+◌, ◌⊎◌, length, length-append, ◌≡◌, ◌∙◌, ◌∷◌, ◌++◌, ◌||◌, [], ◌<◌, ℕ, Bool, true, false, IsTrue, List, Option, None, Some, MatchBool}
use Rattle.std.proofs.Common.{MatchOption, ap, append-nil, append_assoc, arith, count_by, drop, if◌then◌else◌, inl, inr, refl, replicate, subst, suc, sym, zero}
use Rattle.std.proofs.lemmas.List.Sums.{sum_by-cons}
use Rattle.access_types.specs.Access as access
use Rattle.access_types.specs.Ticket.{ticket_number}
use Rattle.access_types.specs.declared.history.Happening.{Happening}
use Rattle.access_types.specs.declared.history.Happening.TheVariants as happenings
use Rattle.access_types.specs.declared.history.Mark.{Mark}
use Rattle.litmus_semantics.specs.Task as meaning
use Rattle.litmus_syntax.specs.Tree.{Block}
use Rattle.access_run.specs.memory_operation.Effects.{moments_of, read_moments, write_moments}
use Rattle.access_run.specs.declared.memory_operation.effect.Effect.{Effect}
use Rattle.access_run.specs.declared.memory_operation.operation.Operation.{Operation}
use Rattle.executions.proofs.execution.Intervals as ends
use Rattle.executions.proofs.execution.Intervals.{Has, NoneEnds, has_either, has_first, has_last}
use Rattle.executions.proofs.execution.TaskFacts.{IsKnown, begins_known, silenced_too}
use Rattle.soundness.specs.Watches.{is_verdict}
use Rattle.setup_access.specs.Check as cases
use Rattle.setup_access.specs.Check.{Check, ChecksOnce, Fallen, GoesOn, NoneFound, Pass, Passes, Rechecks, fallen_of, left_to_check}
use Rattle.setup_access.specs.Found.{Takes, FinderTells}
use Rattle.setup_access.specs.OwnAccesses.{IsOwn}
use Rattle.setup_access.specs.Records.{MakesDone}
use Rattle.setup_access.specs.declared.begun.Begun.{Begun}
use Rattle.setup_access.specs.declared.outcome.Outcome.{Outcome}
use Rattle.setup_access.specs.declared.outcome.Outcome.TheVariants as outcomes
use Rattle.setup_access.specs.declared.outcome.Watchpoint.{Watchpoint}
use Rattle.setup_access.proofs.DisciplineLemmas.{on_flag, on_word}
use Rattle.slot.specs.Pair.{Halves}
use Rattle.slot_table.specs.declared.records.Record.{Record}
use Rattle.slot_table.specs.declared.step.Step.TheVariants.{Tell}
use Rattle.watch_word.specs.Word.{Encodable}
use Rattle.log_correctness.specs.Stamps.{is_end}
use Rattle.executions.specs.observation_determinism.Begins.{is_begin}
use Rattle.program_order.specs.Access.{Makes}
use Rattle.program_order.specs.Standing.{BeginsNow, Setting, Standing, checks_of, coming, counting, doing, registered}
use Rattle.program_order.specs.WrittenOrder.{ClosesScope, OpensScope, SpellsAll, at_first}
use Rattle.program_order.proofs.AccessLemmas.{access_does, counting_progress, makes_did}
use Rattle.program_order.proofs.Induction.{Kept, by_block}
use Rattle.program_order.proofs.ScopesLemmas.{counting_scopes, operated_scopes}
use Rattle.program_order.proofs.WayLemmas.{Begins}

abbrev pub Each : (Fallen → Type 0) → List Fallen → Type 0
Each P [] = Unit {0}
Each P (fallen ∷ outs) = P fallen × Each P outs

each_both : (P : Fallen → Type 0) (first second : List Fallen) → Each P first → Each P second → Each P (first ++ second)
each_both P [] second p q = q
each_both P (fallen ∷ first) second p q = (p.0, each_both P first second p.1 q)

begins_on : (first middle all : List Happening) → Begins first middle → Begins middle all → Begins first all
begins_on first middle all p q =
    (p.0 ++ q.0, q.1 ∙ (ap (λ (d : List Happening). d ++ q.0) p.1 ∙ append_assoc first p.0 q.0))

-- each access that begins among these ends among them
abbrev pub IsClosed : List Happening → Type 0
IsClosed did = (a : access.Access) → Has did (happenings.Begin a) → Has did (happenings.End a)

-- the happening is no begin of an access
abbrev IsNoBegin : Happening → Type 0
IsNoBegin (happenings.Begin a) = ⊥
IsNoBegin happening = Unit {0}

abbrev NoneBegin : List Happening → Type 0
NoneBegin [] = Unit {0}
NoneBegin (first ∷ did) = IsNoBegin first × NoneBegin did

none_begins : (did : List Happening) (a : access.Access) → NoneBegin did → ¬ Has did (happenings.Begin a)
none_begins [] a none h = h
none_begins (first ∷ did) a none h = elim h [
  | inl here ↦ subst (λ (x : Happening). IsNoBegin x) here none.0
  | inr more ↦ none_begins did a none.1 more
]

closed_none : (did : List Happening) → NoneBegin did → IsClosed did
closed_none did none = λ a h. absurd (none_begins did a none h)

closed_both : (first second : List Happening) → IsClosed first → IsClosed second → IsClosed (first ++ second)
closed_both first second p q = λ a h. elim (has_either first second (happenings.Begin a) h) [
  | inl here ↦ has_first first second (happenings.End a) (p a here)
  | inr there ↦ has_last first second (happenings.End a) (q a there)
]

none_of_marks : (count : ℕ) (m : Mark) → NoneBegin (replicate count (happenings.Mark m))
none_of_marks zero m = tt
none_of_marks (suc count) m = (tt, none_of_marks count m)

none_of_both : (first second : List Happening) → NoneBegin first → NoneBegin second → NoneBegin (first ++ second)
none_of_both [] second p q = q
none_of_both (x ∷ first) second p q = (p.0, none_of_both first second p.1 q)

none_read : (a : access.Access) (value : Option ℕ) → NoneBegin (read_moments a value)
none_read a None = tt
none_read a (Some value) = (tt, tt)

none_written : (a : access.Access) (value : Option ℕ) → NoneBegin (write_moments a value)
none_written a None = tt
none_written a (Some value) = (tt, tt)

none_of_effect : (a : access.Access) (effect : Effect) → NoneBegin (moments_of a effect)
none_of_effect a effect =
    none_of_both (read_moments a effect.read) (write_moments a effect.written) (none_read a effect.read) (none_written a effect.written)

-- what an access did from its begin to its end
closed_access : (a : access.Access) (inside : List Happening) → IsClosed inside → IsClosed (happenings.Begin a ∷ (inside ++ happenings.End a ∷ []))
closed_access a inside closed = λ b h. elim h [
  | inl begins ↦
      let same : a ≡ b = cc in
      inr (has_last inside (happenings.End a ∷ []) (happenings.End b) (inl (ap (λ (x : access.Access). happenings.End x) same)))
  | inr more ↦ elim (has_either inside (happenings.End a ∷ []) (happenings.Begin b) more) [
    | inl within ↦ inr (has_first inside (happenings.End a ∷ []) (happenings.End b) (closed b within))
    | inr last ↦ elim last [
      | inl is ↦ absurd (subst (λ (x : Happening). IsNoBegin x) is tt)
      | inr none ↦ absurd none
    ]
  ]
]

-- what stands at a split of two lists stands in one of them
split_either : (xs ys p q : List Happening) (x : Happening) → xs ++ ys ≡ p ++ x ∷ q
    → ((t : List Happening) × (xs ≡ p ++ x ∷ t)) ⊎ ((u : List Happening) × (p ≡ xs ++ u) × (ys ≡ u ++ x ∷ q))
split_either [] ys p q x is = inr (p, refl, is)
split_either (y ∷ xs) ys [] q x is =
    let first : y ≡ x = cc in inl (xs, ap (λ (z : Happening). z ∷ xs) first)
split_either (y ∷ xs) ys (z ∷ p) q x is =
    let first : y ≡ z = cc in
    let more : xs ++ ys ≡ p ++ x ∷ q = cc in
    elim (split_either xs ys p q x more) [
      | inl here ↦ inl (here.0, ap (λ (w : Happening). w ∷ xs) first ∙ ap (λ (l : List Happening). z ∷ l) here.1)
      | inr there ↦ inr (there.0, ap (λ (w : Happening). w ∷ p) (sym first) ∙ ap (λ (l : List Happening). y ∷ l) there.1, there.2)
    ]

-- where an access ends it has begun before
abbrev pub EndsLater : List Happening → Type 0
EndsLater did = (p q : List Happening) (a : access.Access) → did ≡ p ++ happenings.End a ∷ q → Has p (happenings.Begin a)

none_ended : (did : List Happening) (a : access.Access) → NoneEnds did → ¬ Has did (happenings.End a)
none_ended [] a none h = h
none_ended (first ∷ did) a none h = elim h [
  | inl here ↦ subst (λ (x : Happening). ends.IsNoEnd x) here none.0
  | inr more ↦ none_ended did a none.1 more
]

later_none : (did : List Happening) → NoneEnds did → EndsLater did
later_none did none = λ p q a is. absurd (none_ended did a none (subst (λ (d : List Happening). Has d (happenings.End a)) (sym is)
    (has_last p (happenings.End a ∷ q) (happenings.End a) (inl refl))))

later_both : (first second : List Happening) → EndsLater first → EndsLater second → EndsLater (first ++ second)
later_both first second h k = λ p q a is. elim (split_either first second p q (happenings.End a) is) [
  | inl here ↦ h p here.0 a here.1
  | inr there ↦ subst (λ (d : List Happening). Has d (happenings.Begin a)) (sym there.1) (has_last first there.0 (happenings.Begin a) (k there.0 q a there.2))
]

later_access : (a : access.Access) (inside : List Happening) → EndsLater inside → EndsLater (happenings.Begin a ∷ (inside ++ happenings.End a ∷ []))
later_access a inside h = λ p q b is. by q b p is
  where
    last : (u q : List Happening) (b : access.Access) → happenings.End a ∷ [] ≡ u ++ happenings.End b ∷ q → a ≡ b
    last [] q b is = cc
    last (x ∷ u) q b is =
        let long : 1 ≡ length (x ∷ (u ++ happenings.End b ∷ q)) = ap (λ (d : List Happening). length d) is in
        let parts : length (u ++ happenings.End b ∷ q) ≡ length u + length (happenings.End b ∷ q) = length-append u (happenings.End b ∷ q) in
        absurd (omega (arith, long, parts))

    by : (q : List Happening) (b : access.Access) (p : List Happening) → happenings.Begin a ∷ (inside ++ happenings.End a ∷ []) ≡ p ++ happenings.End b ∷ q → Has p (happenings.Begin b)
    by q b [] is = let no : happenings.Begin a ≡ happenings.End b = cc in absurd (subst (λ (x : Happening). ends.IsNoEnd x) no tt)
    by q b (x ∷ p) is =
        let first : happenings.Begin a ≡ x = cc in
        let more : inside ++ happenings.End a ∷ [] ≡ p ++ happenings.End b ∷ q = cc in
        elim (split_either inside (happenings.End a ∷ []) p q (happenings.End b) more) [
          | inl here ↦ inr (h p here.0 b here.1)
          | inr there ↦
              let same : a ≡ b = last there.0 q b there.2 in
              inl (sym first ∙ ap (λ (c : access.Access). happenings.Begin c) same)
        ]

-- as many end as begin
pub counted : (p : Happening → Bool) (x : Happening) (did : List Happening) → count_by p (x ∷ did) ≡ (if p x then 1 else 0) + count_by p did
counted p x did = sum_by-cons (λ (y : Happening). if p y then 1 else 0) x did

pub count_both : (p : Happening → Bool) (first second : List Happening) → count_by p (first ++ second) ≡ count_by p first + count_by p second
count_both p [] second = omega arith
count_both p (x ∷ first) second = omega (arith, counted p x (first ++ second), counted p x first, count_both p first second)

even_both : (first second : List Happening) → count_by is_end first ≡ count_by is_begin first → count_by is_end second ≡ count_by is_begin second
    → count_by is_end (first ++ second) ≡ count_by is_begin (first ++ second)
even_both first second p q = omega (arith, count_both is_end first second, count_both is_begin first second, p, q)

no_begins : (did : List Happening) → NoneBegin did → NoneEnds did → (count_by is_end did ≡ 0) × (count_by is_begin did ≡ 0)
no_begins [] b e = (refl, refl)
no_begins (happenings.Begin a ∷ did) b e = absurd b.0
no_begins (happenings.End a ∷ did) b e = absurd e.0
no_begins (happenings.Read bytes value ∷ did) b e = let more = no_begins did b.1 e.1 in
    (counted is_end (happenings.Read bytes value) did ∙ omega (arith, more.0), counted is_begin (happenings.Read bytes value) did ∙ omega (arith, more.1))
no_begins (happenings.Write bytes value ∷ did) b e = let more = no_begins did b.1 e.1 in
    (counted is_end (happenings.Write bytes value) did ∙ omega (arith, more.0), counted is_begin (happenings.Write bytes value) did ∙ omega (arith, more.1))
no_begins (happenings.Lock lock ∷ did) b e = let more = no_begins did b.1 e.1 in
    (counted is_end (happenings.Lock lock) did ∙ omega (arith, more.0), counted is_begin (happenings.Lock lock) did ∙ omega (arith, more.1))
no_begins (happenings.Unlock lock ∷ did) b e = let more = no_begins did b.1 e.1 in
    (counted is_end (happenings.Unlock lock) did ∙ omega (arith, more.0), counted is_begin (happenings.Unlock lock) did ∙ omega (arith, more.1))
no_begins (happenings.Mark m ∷ did) b e = let more = no_begins did b.1 e.1 in
    (counted is_end (happenings.Mark m) did ∙ omega (arith, more.0), counted is_begin (happenings.Mark m) did ∙ omega (arith, more.1))

even_none : (did : List Happening) → NoneBegin did → NoneEnds did → count_by is_end did ≡ count_by is_begin did
even_none did b e = let none = no_begins did b e in none.0 ∙ sym none.1

even_access : (a : access.Access) (inside : List Happening) → count_by is_end inside ≡ count_by is_begin inside
    → count_by is_end (happenings.Begin a ∷ (inside ++ happenings.End a ∷ [])) ≡ count_by is_begin (happenings.Begin a ∷ (inside ++ happenings.End a ∷ []))
even_access a inside even =
    omega (
      arith,
      counted is_end (happenings.Begin a) (inside ++ happenings.End a ∷ []),
      counted is_begin (happenings.Begin a) (inside ++ happenings.End a ∷ []),
      count_both is_end inside (happenings.End a ∷ []),
      count_both is_begin inside (happenings.End a ∷ []),
      counted is_end (happenings.End a) [],
      counted is_begin (happenings.End a) [],
      even,
    )

-- a task that does all this in its text
module _ (s : Setting) (end : Standing) where
  -- it has begun this access, which wasn't silenced
  pub record IsHeard (a : access.Access) : Type 0 where
    pub by : Begun
    pub known : IsKnown s end by
    pub is : by.access ≡ a
    pub unsilenced : by.silenced ≡ false

  -- nor did it count as marked, and a word can stand for it
  pub record IsWatched (a : access.Access) : Type 0 where
    pub by : Begun
    pub known : IsKnown s end by
    pub is : by.access ≡ a
    pub unsilenced : by.silenced ≡ false
    pub unmarked : by.marked ≡ false
    pub encodable : Encodable a

  abbrev pub FallsSo : Fallen → Type 0
  FallsSo fallen = (IsTrue (is_verdict fallen.outcome) → IsWatched fallen.access)
      × ((pair : Halves) → fallen.outcome ≡ outcomes.Told pair → IsHeard fallen.access)

  abbrev AllKnown : List Begun → Type 0
  AllKnown [] = Unit {0}
  AllKnown (scope ∷ scopes) = IsKnown s end scope × AllKnown scopes

  all_with : (scopes : List Begun) (begun : Begun) → AllKnown scopes → IsKnown s end begun → AllKnown (scopes ++ begun ∷ [])
  all_with [] begun all known = (known, tt)
  all_with (scope ∷ scopes) begun all known = (all.0, all_with scopes begun all.1 known)

  pick : (b : Bool) (Yes No Goal : Type 0) → MatchBool b Yes No → (b ≡ true → Yes → Goal) → (b ≡ false → No → Goal) → Goal
  pick true Yes No Goal given at_true at_false = at_true refl given
  pick false Yes No Goal given at_true at_false = at_false refl given

  -- one check of an access that has begun
  module _ (b : Begun) (known : IsKnown s end b) (unsilenced : b.silenced ≡ false) where
    heard : IsHeard b.access
    heard = record { by = b; known = known; is = refl; unsilenced = unsilenced }

    -- what is no verdict
    other : (pass : Pass) (outcome : Outcome) → pass.outcome ≡ outcome → is_verdict outcome ≡ false → FallsSo (fallen_of b.access pass)
    other pass outcome is none =
        (λ yes. absurd (let both : false ≡ true = sym none ∙ (ap is_verdict (sym is) ∙ yes) in cc), λ pair told. heard)

    told_or_lost : (taken : Bool) (found : Watchpoint) (records rest : List Record) (outcome : Outcome)
        → MatchBool taken (FinderTells (checks_of s) b.access found.index records outcome rest) ((outcome ≡ outcomes.Lost) × (rest ≡ records)) → is_verdict outcome ≡ false
    told_or_lost true found records rest outcome h = ap is_verdict (told_is h.1 h.3)
      where
        told_is : (after : List Record) → MakesDone s.text.task (Tell found.index (ticket_number b.access)) (λ last.
            (outcome ≡ outcomes.Told (record { setter = h.0.setter; finder = ticket_number b.access })) × (rest ≡ last)) after
            → outcome ≡ outcomes.Told (record { setter = h.0.setter; finder = ticket_number b.access })
        told_is [] made_so = absurd made_so
        told_is (first ∷ more) made_so = made_so.2.1.0
    told_or_lost false found records rest outcome h = ap is_verdict h.0

    found_none : (mask : Option ℕ) (found : Watchpoint) (records rest : List Record) (outcome : Outcome)
        → MatchOption mask (Takes (checks_of s) b.access found records outcome rest) (λ m. (outcome ≡ outcomes.Nothing) × (rest ≡ records)) → is_verdict outcome ≡ false
    found_none None found [] rest outcome h = absurd h
    found_none None found (first ∷ records) rest outcome h = let got = on_flag first.answer _ h.2 in told_or_lost got.0 found records rest outcome got.2
    found_none (Some m) found records rest outcome h = ap is_verdict h.0

    none_found : (asked : ℕ) (records : List Record) (pass : Pass) (rest : List Record)
        → NoneFound (checks_of s) b.access b.marked asked records pass rest → FallsSo (fallen_of b.access pass)
    none_found asked records pass rest (cases.counts_as_marked m is r) = other pass outcomes.Nothing (ap (λ (p : Pass). p.outcome) is) refl
    none_found asked records pass rest (cases.skipped m n is r) = other pass outcomes.Nothing (ap (λ (p : Pass). p.outcome) is) refl
    none_found asked records pass rest (cases.unencodable m w n is r) = other pass outcomes.Unencodable (ap (λ (p : Pass). p.outcome) is) refl
    none_found asked records pass rest (cases.watched judged later m w encodable up left) = (
      λ yes. record { by = b; known = known; is = refl; unsilenced = unsilenced; unmarked = m; encodable = encodable },
      λ pair told. heard,
    )

    goes_from : (asked : ℕ) (found : Option Watchpoint) (records : List Record) (pass : Pass) (rest : List Record)
        → GoesOn (checks_of s) b.access b.marked asked found records pass rest → FallsSo (fallen_of b.access pass)
    goes_from asked None records pass rest h = none_found asked records pass rest h
    goes_from asked (Some found) records pass rest h = other pass pass.outcome refl (found_none b.access.mask found records rest pass.outcome h.3)

    once : (asked : ℕ) (records : List Record) (pass : Pass) (rest : List Record)
        → ChecksOnce (checks_of s) b.access b.marked asked records pass rest → FallsSo (fallen_of b.access pass)
    once asked records pass rest h = goes_from asked h.0 h.1 pass rest h.3

  rechecks : (scopes : List Begun) → AllKnown scopes → (asked : ℕ) (records : List Record) (passes : Passes) (rest : List Record)
      → Rechecks (checks_of s) scopes asked records passes rest → Each FallsSo passes.outcomes
  rechecks [] known asked records passes rest h = subst (λ (p : Passes). Each FallsSo p.outcomes) (sym h.0) tt
  rechecks (scope ∷ scopes) known asked records passes rest h = pick scope.silenced _ _ _ h
      (λ is skips. rechecks scopes known.1 asked records passes rest skips)
      (λ is now. subst (λ (o : List Fallen). Each FallsSo o) (sym now.5) (
        once scope known.0 is asked records now.0 now.1 now.3,
        rechecks scopes known.1 now.0.asked now.1 (record { outcomes = now.2; asked = passes.asked }) rest now.4,
      ))

  left_known : (settled : Bool) (scopes : List Begun) → AllKnown scopes → AllKnown (left_to_check settled scopes)
  left_known true scopes known = tt
  left_known false scopes known = known

  checked : (scopes : List Begun) (begun : Begun) (asked : ℕ) (records : List Record) (passes : Passes) (rest : List Record) → IsKnown s end begun → AllKnown scopes
      → Check (checks_of s) scopes begun asked records passes rest → Each FallsSo passes.outcomes
  checked scopes begun asked [] passes rest known all h = absurd h.2
  checked scopes begun asked (first ∷ later) passes rest known all h =
      let got = on_word first.answer _ h.2.2 in
      pick begun.silenced _ _ _ got.2
      (λ is silenced. subst (λ (p : Passes). Each FallsSo p.outcomes) (sym silenced.0) tt)
      (λ is now. subst (λ (o : List Fallen). Each FallsSo o) (sym now.5) (
        once begun known is asked later now.0 now.1 now.3,
        rechecks (left_to_check now.0.settled scopes) (left_known now.0.settled scopes all) now.0.asked now.1
            (record { outcomes = now.2; asked = passes.asked }) rest now.4,
      ))

  -- an access that begins is one of the task, and has bytes
  record IsFit (a : access.Access) : Type 0 where
    own : IsOwn (checks_of s) a
    has_bytes : 0 < a.size

  abbrev AllFit : List Happening → Type 0
  AllFit did = (a : access.Access) → Has did (happenings.Begin a) → IsFit a

  fit_both : (first second : List Happening) → AllFit first → AllFit second → AllFit (first ++ second)
  fit_both first second p q = λ a h. elim (has_either first second (happenings.Begin a) h) [ inl here ↦ p a here | inr there ↦ q a there ]

  fit_none : (did : List Happening) → NoneBegin did → AllFit did
  fit_none did none = λ a h. absurd (none_begins did a none h)

  fit_access : (a : access.Access) (inside : List Happening) → IsFit a → AllFit inside → AllFit (happenings.Begin a ∷ (inside ++ happenings.End a ∷ []))
  fit_access a inside fit all = λ b h. elim h [
    | inl begins ↦ let same : a ≡ b = cc in subst IsFit same fit
    | inr more ↦ elim (has_either inside (happenings.End a ∷ []) (happenings.Begin b) more) [
      | inl within ↦ all b within
      | inr last ↦ elim last [
        | inl is ↦ absurd (subst (λ (x : Happening). IsNoBegin x) is tt)
        | inr none ↦ absurd none
      ]
    ]
  ]

  fit_now : (before : Standing) (a : access.Access) (begun : Begun) → BeginsNow s before a begun → IsFit a
  fit_now before a begun now = record { own = now.own; has_bytes = subst (λ (b : access.Access). 0 < b.size) now.access begun.has_bytes }

  -- a part of the text
  record Part (before : Standing) (records : List Record) (after : Standing) (rest : List Record) : Type 0 where
    begins : Begins before.progress.did after.progress.did
    closed : IsClosed begins.0
    later : EndsLater begins.0
    even : count_by is_end begins.0 ≡ count_by is_begin begins.0
    fit : AllFit begins.0
    scopes : after.scopes ≡ before.scopes
    new : List Fallen
    outcomes : after.outcomes ≡ before.outcomes ++ new
    fall : Begins after.progress.did end.progress.did → AllKnown before.scopes → Each FallsSo new

  -- one without a check
  plainly : (before after : Standing) (records rest : List Record) (did : List Happening) → after.progress.did ≡ before.progress.did ++ did
      → NoneBegin did → NoneEnds did → after.scopes ≡ before.scopes → after.outcomes ≡ before.outcomes → Part before records after rest
  plainly before after records rest did is none no_ends scopes same = record {
    begins = (did, is);
    closed = closed_none did none;
    later = later_none did no_ends;
    even = even_none did none no_ends;
    fit = fit_none did none;
    scopes = scopes;
    new = [];
    outcomes = same ∙ sym (append-nil before.outcomes);
    fall = λ on known. tt;
  }

  counting_outcomes : (ends_nothing : Bool) (before : Standing) → (counting ends_nothing before).outcomes ≡ before.outcomes
  counting_outcomes true before = refl
  counting_outcomes false before = refl

  makes_part : (a : access.Access) (operation : Option Operation) (effect : Effect) (before : Standing) (records : List Record) (after : Standing) (rest : List Record)
      → Makes s before a operation records effect after rest → Part before records after rest
  makes_part a operation effect before records after rest h =
      let did = makes_did s a operation effect before records after rest h in
      let began : Standing = doing before (drop 1 records) (happenings.Begin a ∷ []) in
      record {
        begins = (access_does a effect, did);
        closed = closed_access a (moments_of a effect) (closed_none (moments_of a effect) (none_of_effect a effect));
        later = later_access a (moments_of a effect) (later_none (moments_of a effect) (ends.none_of_effect a effect));
        even = even_access a (moments_of a effect) (even_none (moments_of a effect) (none_of_effect a effect) (ends.none_of_effect a effect));
        fit = fit_access a (moments_of a effect) (fit_now before a h.begun h.begins) (fit_none (moments_of a effect) (none_of_effect a effect));
        scopes = ap (λ (st : Standing). st.scopes) h.comes_to ∙ operated_scopes a operation began h.checked effect h.done;
        new = h.passes.outcomes;
        outcomes = ap (λ (st : Standing). st.outcomes) h.comes_to;
        fall = λ on known.
            let now : IsKnown s end h.begun = begins_known s end before a h.begun h.begins
            (begins_on (before.progress.did ++ happenings.Begin a ∷ []) after.progress.did end.progress.did (
              moments_of a effect ++ happenings.End a ∷ [],
              did ∙ sym (append_assoc before.progress.did (happenings.Begin a ∷ []) (moments_of a effect ++ happenings.End a ∷ [])),
            ) on) in
            checked before.scopes h.begun before.asked records h.passes h.checked now known h.check;
      }

  scoped_part : (a : access.Access) (begun : Begun) (before opened closing after : Standing) (records inside later rest : List Record)
      → OpensScope s before a records begun opened inside → Part opened inside closing later → ClosesScope s closing begun before.scopes later after rest
      → Part before records after rest
  scoped_part a begun before opened closing after records inside later rest opens inner closes =
      let opened_did : opened.progress.did ≡ before.progress.did ++ happenings.Begin a ∷ [] = ap (λ (st : Standing). st.progress.did) opens.comes_to in
      let last_did : after.progress.did ≡ closing.progress.did ++ happenings.End begun.access ∷ [] = ap (λ (st : Standing). st.progress.did) closes.comes_to in
      let inner_did : closing.progress.did ≡ before.progress.did ++ happenings.Begin a ∷ inner.begins.0 =
      inner.begins.1 ∙ (ap (λ (d : List Happening). d ++ inner.begins.0) opened_did ∙ append_assoc before.progress.did (happenings.Begin a ∷ []) inner.begins.0) in
      let does_all : List Happening = happenings.Begin a ∷ (inner.begins.0 ++ happenings.End a ∷ []) in
      let did : after.progress.did ≡ before.progress.did ++ does_all =
      last_did ∙ (ap (λ (b : access.Access). closing.progress.did ++ happenings.End b ∷ []) opens.begins.access
      ∙ (ap (λ (d : List Happening). d ++ happenings.End a ∷ []) inner_did
      ∙ append_assoc before.progress.did (happenings.Begin a ∷ inner.begins.0) (happenings.End a ∷ []))) in
      let opened_scopes : opened.scopes ≡ before.scopes ++ begun ∷ [] = ap (λ (st : Standing). st.scopes) opens.comes_to in
      let opened_out : opened.outcomes ≡ before.outcomes ++ opens.passes.outcomes = ap (λ (st : Standing). st.outcomes) opens.comes_to in
      let last_out : after.outcomes ≡ closing.outcomes ++ closes.passes.outcomes = ap (λ (st : Standing). st.outcomes) closes.comes_to in
      record {
        begins = (does_all, did);
        closed = closed_access a inner.begins.0 inner.closed;
        later = later_access a inner.begins.0 inner.later;
        even = even_access a inner.begins.0 inner.even;
        fit = fit_access a inner.begins.0 (fit_now before a begun opens.begins) inner.fit;
        scopes = ap (λ (st : Standing). st.scopes) closes.comes_to;
        new = (opens.passes.outcomes ++ inner.new) ++ closes.passes.outcomes;
        outcomes = last_out ∙ (ap (λ (o : List Fallen). o ++ closes.passes.outcomes)
            (inner.outcomes ∙ (ap (λ (o : List Fallen). o ++ inner.new) opened_out ∙ append_assoc before.outcomes opens.passes.outcomes inner.new))
            ∙ append_assoc before.outcomes (opens.passes.outcomes ++ inner.new) closes.passes.outcomes);
        fall = λ on known.
            let from_closing : Begins closing.progress.did end.progress.did =
            begins_on closing.progress.did after.progress.did end.progress.did (happenings.End begun.access ∷ [], last_did) on in
            let from_opened : Begins opened.progress.did end.progress.did =
            begins_on opened.progress.did closing.progress.did end.progress.did inner.begins from_closing in
            let now : IsKnown s end begun = begins_known s end before a begun opens.begins
            (subst (λ (d : List Happening). Begins d end.progress.did) opened_did from_opened) in
            each_both FallsSo (opens.passes.outcomes ++ inner.new) closes.passes.outcomes
            (each_both FallsSo opens.passes.outcomes inner.new
            (checked before.scopes begun before.asked records opens.passes inside now known opens.check)
            (inner.fall from_closing (subst AllKnown (sym opened_scopes) (all_with before.scopes begun known now))))
            (rechecks ((record begun { silenced = begun.silenced || closes.silenced }) ∷ []) (silenced_too s end begun closes.silenced now, tt)
            closing.asked later closes.passes closes.close.1.0 closes.close.1.1);
      }

  kept_parts : Kept s Part
  kept_parts = record {
    still = λ before records. plainly before before records records [] (sym (append-nil before.progress.did)) tt tt refl refl;
    joins = λ before between after records later rest p q. record {
      begins = (
        p.begins.0 ++ q.begins.0,
        q.begins.1 ∙ (ap (λ (d : List Happening). d ++ q.begins.0) p.begins.1 ∙ append_assoc before.progress.did p.begins.0 q.begins.0),
      );
      closed = closed_both p.begins.0 q.begins.0 p.closed q.closed;
      later = later_both p.begins.0 q.begins.0 p.later q.later;
      even = even_both p.begins.0 q.begins.0 p.even q.even;
      fit = fit_both p.begins.0 q.begins.0 p.fit q.fit;
      scopes = q.scopes ∙ p.scopes;
      new = p.new ++ q.new;
      outcomes = q.outcomes ∙ (ap (λ (o : List Fallen). o ++ q.new) p.outcomes ∙ append_assoc before.outcomes p.new q.new);
      fall = λ on known. each_both FallsSo p.new q.new
          (p.fall (begins_on between.progress.did after.progress.did end.progress.did q.begins on) known)
          (q.fall on (subst AllKnown (sym p.scopes) known));
    };
    marked = λ ends_nothing count m before records.
        let counted : Standing = counting ends_nothing before in
        let marks : List Happening = replicate count (happenings.Mark m) in
        plainly before (doing counted records marks) records records marks
        (ap (λ (p : meaning.Progress). p.did ++ marks) (counting_progress ends_nothing before)) (none_of_marks count m) (ends.none_of_marks count m)
        (counting_scopes ends_nothing before) (counting_outcomes ends_nothing before);
    lost = λ before records.
        plainly before (coming (counting true before) records before.progress) records records [] (sym (append-nil before.progress.did)) tt tt refl refl;
    assigned = λ before records register value.
        plainly before (registered before records register value) records records [] (sym (append-nil before.progress.did)) tt tt refl refl;
    makes = makes_part;
    locks = λ lock before records rest is takes.
        plainly before (doing before rest (happenings.Lock lock ∷ [])) records rest (happenings.Lock lock ∷ []) refl (tt, tt) (tt, tt) refl refl;
    unlocks = λ lock before records rest has stores.
        plainly before (doing before rest (happenings.Unlock lock ∷ [])) records rest (happenings.Unlock lock ∷ []) refl (tt, tt) (tt, tt) refl refl;
    scoped = λ a assertion. scoped_part a;
  }

-- all outcomes of a text's checks
pub all_fall : (s : Setting) (registers : ℕ) (body : Block) (records : List Record) (whole : SpellsAll s registers body records)
    → Each (FallsSo s whole.end) whole.end.outcomes
all_fall s registers body records whole =
    let part = by_block s (Part s whole.end) (kept_parts s whole.end) 0 body (at_first registers) records whole.end [] whole.steps in
    subst (Each (FallsSo s whole.end)) (sym part.outcomes) (part.fall ([], sym (append-nil whole.end.progress.did)) tt)

-- all that it does
pub all_closed : (s : Setting) (registers : ℕ) (body : Block) (records : List Record) (whole : SpellsAll s registers body records)
    → IsClosed whole.end.progress.did
all_closed s registers body records whole =
    let part = by_block s (Part s whole.end) (kept_parts s whole.end) 0 body (at_first registers) records whole.end [] whole.steps in
    subst IsClosed (sym part.begins.1) part.closed

-- each access that it begins is one of its own, and as many end as begin
pub all_fit : (s : Setting) (registers : ℕ) (body : Block) (records : List Record) (whole : SpellsAll s registers body records)
    → (a : access.Access) → Has whole.end.progress.did (happenings.Begin a) → IsOwn (checks_of s) a × (0 < a.size)
all_fit s registers body records whole a has =
    let part = by_block s (Part s whole.end) (kept_parts s whole.end) 0 body (at_first registers) records whole.end [] whole.steps in
    let it = part.fit a (subst (λ (d : List Happening). Has d (happenings.Begin a)) part.begins.1 has) in
    (it.own, it.has_bytes)

pub all_even : (s : Setting) (registers : ℕ) (body : Block) (records : List Record) (whole : SpellsAll s registers body records)
    → count_by is_end whole.end.progress.did ≡ count_by is_begin whole.end.progress.did
all_even s registers body records whole =
    let part = by_block s (Part s whole.end) (kept_parts s whole.end) 0 body (at_first registers) records whole.end [] whole.steps in
    subst (λ (d : List Happening). count_by is_end d ≡ count_by is_begin d) (sym part.begins.1) part.even

-- where an access ends it has begun before
pub all_later : (s : Setting) (registers : ℕ) (body : Block) (records : List Record) (whole : SpellsAll s registers body records)
    → EndsLater whole.end.progress.did
all_later s registers body records whole =
    let part = by_block s (Part s whole.end) (kept_parts s whole.end) 0 body (at_first registers) records whole.end [] whole.steps in
    subst EndsLater (sym part.begins.1) part.later
