-- Accesses that are in progress in an execution whose tasks have ended are among those that have ended.
use Rattle.std.proofs.Common.{◌≡◌, ◌≢◌, ◌<◌, ◌≤◌, ◌+◌, ◌^◌, ◌⊎◌, ◌∙◌, ◌++◌, ◌∷◌, [], drop, inl, inr, ℕ, suc, zero, Contains, List, ap, append_assoc, append-nil}
use Rattle.std.proofs.Common.{arith, length, refl, subst, sym, take, Bool, true, false, if◌then◌else◌, nat_eq}
use Rattle.std.proofs.lemmas.Bool.{eq-eqb, eqb-false, eqb-true}
use Rattle.std.proofs.lemmas.List.{length-append, take-append-drop}
use Rattle.std.proofs.lemmas.List.Elements.{All-contains, Contains-append_left, Contains-append_right}
use Rattle.access_types.specs.Access as access
use Rattle.access_types.specs.History.{History, InProgress, beginning, ending, happenings_of}
use Rattle.access_types.specs.Stamped.{Stamped}
use Rattle.access_types.specs.declared.history.Happening.{Happening}
use Rattle.access_types.specs.declared.history.Happening.TheVariants as happenings
use Rattle.access_types.specs.declared.history.Moment.{Moment}
use Rattle.report_text.specs.Truth.{AreInProgressAtOnce}
use Rattle.litmus_semantics.specs.RunOfProgram.{setting_of}
use Rattle.litmus_semantics.specs.TextSites.{FitsTickets, block_sites}
use Rattle.executions.specs.execution.Run.{Run, task_of, task_setting}
use Rattle.executions.specs.execution.Execution.{Execution}
use Rattle.executions.specs.execution.Observed.{first_moments, history_by, history_of, made_by, moments_of}
use Rattle.executions.proofs.execution.Histories.{did_of_all, of_both, of_task}
use Rattle.executions.proofs.execution.Intervals.{Has, contains_has, has_contains, has_either, has_first, has_last}
use Rattle.log_correctness.specs.Decided.{IsStampedSo}
use Rattle.log_correctness.specs.Lists.{AreAccesses, AreAccessesOf, ByTask}
use Rattle.log_correctness.specs.Spans.{HappensAt, IsSpan}
use Rattle.soundness.specs.Events.{AreMarks, DoesEvent, EachDoesItsEvent, IsEvent}
use Rattle.slot_table.specs.declared.records.Record.{Record}
use Rattle.slot_table.specs.declared.step.Answer.TheVariants as answers
use Rattle.slot_table.specs.declared.step.Step.TheVariants as steps
use Rattle.log_correctness.specs.Stamps.{is_clock, stamps_in}
use Rattle.log_correctness.proofs.Clock.{event_turns, turns, turns_both, turns_of_marks}
use Rattle.executions.proofs.execution.Begun.{once}
use Rattle.program_order.specs.Standing as tasks
use Rattle.program_order.specs.TaskObserved.{did_by, did_next}
use Rattle.accepted_traces.proofs.Spans as spans
use Rattle.accepted_traces.proofs.Spans.{IsTurn, clock_step}

fronts : {X : Type 0} (p r : List X) (a b : X) (q t : List X) → p ++ a ∷ q ≡ r ++ b ∷ t
    → (p ≡ r) ⊎ (((x : List X) × (r ≡ p ++ a ∷ x)) ⊎ ((x : List X) × (p ≡ r ++ b ∷ x)))
fronts [] [] a b q t is = inl refl
fronts [] (y ∷ r) a b q t is = let same : a ≡ y = cc in inr (inl (r, ap (λ z. z ∷ r) (sym same)))
fronts (y ∷ p) [] a b q t is = let same : y ≡ b = cc in inr (inr (p, ap (λ z. z ∷ p) same))
fronts (y ∷ p) (z ∷ r) a b q t is =
    let same : y ≡ z = cc in
    let more : p ++ a ∷ q ≡ r ++ b ∷ t = cc in
    elim (fronts p r a b q t more) [
      | inl one ↦ inl (ap (λ w. w ∷ p) same ∙ ap (λ l. z ∷ l) one)
      | inr apart ↦ elim apart [
        | inl longer ↦ inr (inl (longer.0, ap (λ w. w ∷ r) (sym same) ∙ ap (λ l. y ∷ l) longer.1))
        | inr shorter ↦ inr (inr (shorter.0, ap (λ w. w ∷ p) same ∙ ap (λ l. z ∷ l) shorter.1))
      ]
    ]

moment_split : (xs : History) (x : Moment) → Has xs x → (p : History) × (q : History) × (xs ≡ p ++ x ∷ q)
moment_split [] x h = absurd h
moment_split (y ∷ xs) x h = elim h [
  | inl here ↦ ([], xs, ap (λ (z : Moment). z ∷ xs) here)
  | inr more ↦ let it = moment_split xs x more in (y ∷ it.0, it.1, ap (λ (l : History). y ∷ l) it.2)
]

has_turn : (did : List Happening) (x : Happening) → IsTurn x → Has did x → 1 ≤ turns did
has_turn [] x turn h = absurd h
has_turn (y ∷ did) x turn h = elim h [
  | inl here ↦
      let one : turns (y ∷ []) ≡ 1 = subst (λ z. IsTurn z) (sym here) turn in
      let all : turns (y ∷ did) ≡ turns (y ∷ []) + turns did = turns_both (y ∷ []) did in omega (arith, one, all)
  | inr more ↦
      let all : turns (y ∷ did) ≡ turns (y ∷ []) + turns did = turns_both (y ∷ []) did in omega (arith, all, has_turn did x turn more)
]

moments_has : (task : ℕ) (did : List Happening) (other : ℕ) (x : Happening) → Has (moments_of task did) (record { task = other; happening = x })
    → (task ≡ other) × Has did x
moments_has task [] other x h = absurd h
moments_has task (y ∷ did) other x h = elim h [
  | inl here ↦ (ap (λ (m : Moment). m.task) here, inl (ap (λ (m : Moment). m.happening) here))
  | inr more ↦ let it = moments_has task did other x more in (it.0, inr it.1)
]

some_clock : (b : Bool) (count : ℕ) → 1 ≤ count → count ≡ (if b then 1 else 0) → b ≡ true
some_clock true count some is = refl
some_clock false count some is = absurd (omega (arith, some, is))

no_begin : (b a : access.Access) → Has (happenings.Begin b ∷ []) (happenings.End a) → ⊥
no_begin b a h = elim h [ inl here ↦ absurd cc | inr none ↦ none ]

only_end : (b a : access.Access) → Has (happenings.End b ∷ []) (happenings.End a) → b ≡ a
only_end b a h = elim h [ inl here ↦ cc | inr none ↦ absurd none ]

-- a step with which an access ends is of the clock, and begins with that
ends_first : (s : tasks.Setting) (before next : List Happening) (made : Record) (a : access.Access) → DoesEvent s before made.step made.answer next
    → Has next (happenings.End a) → (made.step ≡ steps.Clock) × ((marks : List Happening) × (next ≡ happenings.End a ∷ marks))
ends_first s before next made a event has =
    let in_both : Has (event.event ++ event.marks) (happenings.End a) = subst (λ d. Has d (happenings.End a)) event.all has in
    elim (has_either event.event event.marks (happenings.End a) in_both) [
      | inr marks ↦ absurd (let some = has_turn event.marks (happenings.End a) refl marks in omega (arith, some, turns_of_marks event.marks event.are_marks))
      | inl here ↦
          let some = has_turn event.event (happenings.End a) refl here in
          let clock : made.step ≡ steps.Clock = clock_step made.step (some_clock (is_clock made.step) (turns event.event) some
          (event_turns s before made.step made.answer event.event event.is_event)) in
          let is : IsEvent s before steps.Clock made.answer event.event = subst (λ st. IsEvent s before st made.answer event.event) clock event.is_event in (
            clock,
            (
              event.marks,
              elim is.1 [
                | inl begins ↦ absurd (no_begin is.0 a (subst (λ d. Has d (happenings.End a)) begins here))
                | inr ends ↦
                    let same : is.0 ≡ a = only_end is.0 a (subst (λ d. Has d (happenings.End a)) ends here) in
                    event.all ∙ (ap (λ d. d ++ event.marks) ends ∙ ap (λ b. happenings.End b ∷ event.marks) same)
              ],
            ),
          )
    ]

module _ (run : Run) (records : List Record) (list : Execution run records) (each : EachDoesItsEvent list records)
    (stamps : (later earlier : List Record) (latest : Record) → records ≡ later ++ latest ∷ earlier → latest.step ≡ steps.Clock
    → latest.answer ≡ answers.Word (stamps_in earlier)) (few : stamps_in records < 2 ^ 64)
    (first : (task : ℕ) → AreMarks (did_by (list.tasks task) 0)) where
  none_at_first : (n : ℕ) (a : access.Access) → Has (first_moments list n) (ending a) → ⊥
  none_at_first zero a h = h
  none_at_first (suc n) a h = elim (has_either (first_moments list n) (moments_of n (did_by (list.tasks n) 0)) (ending a) h) [
    | inl before ↦ none_at_first n a before
    | inr here ↦
        let it = moments_has n (did_by (list.tasks n) 0) a.task (happenings.End a) here in
        let some = has_turn (did_by (list.tasks n) 0) (happenings.End a) refl it.1 in
        omega (arith, some, turns_of_marks (did_by (list.tasks n) 0) (first n))
  ]

  -- where an access has its end in the history, it ended at a step of its task
  pub ends_at : (later earlier : List Record) → records ≡ later ++ earlier → EachDoesItsEvent list earlier → (a : access.Access)
      → Has (history_by list earlier) (ending a) → (stamp : ℕ) × HappensAt list a.task (happenings.End a) stamp
  ends_at later [] is does a h = absurd (none_at_first (length run.program.tasks) a h)
  ends_at later (latest ∷ earlier) is does a h =
      elim (has_either (history_by list earlier) (moments_of latest.task (did_next (list.tasks latest.task) (made_by latest.task earlier))) (ending a) h) [
        | inl before ↦ ends_at (later ++ latest ∷ []) earlier (is ∙ sym (append_assoc later (latest ∷ []) earlier)) does.0 a before
        | inr here ↦
            let it = moments_has latest.task (did_next (list.tasks latest.task) (made_by latest.task earlier)) a.task (happenings.End a) here in
            let at = ends_first (task_setting run latest.task) (did_by (list.tasks latest.task) (made_by latest.task earlier))
            (did_next (list.tasks latest.task) (made_by latest.task earlier)) latest a does.1 it.1 in (
              stamps_in earlier,
              record {
                later = later;
                latest = latest;
                earlier = earlier;
                split = is;
                mine = it.0;
                answer = stamps later earlier latest is at.0;
                marks = at.1.0;
                did = at.1.1;
              },
            )
      ]

  -- what has begun is begun in the whole history
  pub begun_in : (a : access.Access) (k : ℕ) → InProgress (history_of list) a k → Contains (history_of list) (beginning a)
  begun_in a k goes = has_contains (history_of list) (beginning a)
      (subst (λ (h : History). Has h (beginning a)) (take-append-drop k (history_of list))
      (has_first (take k (history_of list)) (drop k (history_of list)) (beginning a) (contains_has (take k (history_of list)) (beginning a) goes.begun)))

  -- those of a task among those of all
  own_of : {X : Type 0} (Of : ℕ → List X → Type 0) (n : ℕ) (all : List X) → ByTask Of n all → (task : ℕ) → task < n
      → (own : List X) × Of task own × ((x : X) → Contains own x → Contains all x)
  own_of Of zero all h task below = absurd (omega (arith, below))
  own_of {X} Of (suc n) all h task below = by (nat_eq task n) refl (λ less. own_of Of n h.0 h.3 task less)
    where
      by : (b : Bool) → nat_eq task n ≡ b → (task < n → (own : List X) × Of task own × ((x : X) → Contains own x → Contains h.0 x)) → (own : List X) × Of task own × ((x : X) → Contains own x → Contains all x)
      by true e before =
          let same : task ≡ n = eqb-true task n e in
          (h.1, subst (λ t. Of t h.1) (sym same) h.4, λ x inside. subst (λ l. Contains l x) (sym h.2) (Contains-append_right h.0 h.1 x inside))
      by false e before =
          let apart : task ≢ n = eqb-false task n e in
          let it = before (omega (arith, below, apart)) in
          (it.0, it.1, λ x inside. subst (λ l. Contains l x) (sym h.2) (Contains-append_left h.0 h.1 x (it.2 x inside)))

  module _ (accesses : List Stamped) (are : AreAccesses list accesses)
      (below : (a : access.Access) → Contains (history_of list) (beginning a) → a.task < length run.program.tasks)
      (ended : (a : access.Access) → Contains (history_of list) (beginning a) → Contains (history_of list) (ending a)) where
    -- the access is one of these, with its span
    pub record IsAmong (a : access.Access) : Type 0 where
      pub stamped : Stamped
      pub stands : Contains accesses stamped
      pub is : stamped.access ≡ a
      pub span : IsSpan list a.task stamped
      pub so : IsStampedSo list stamped

    pub among : (a : access.Access) → Contains (history_of list) (beginning a) → IsAmong a
    among a begins =
        let at = ends_at [] records refl each a (contains_has (history_of list) (ending a) (ended a begins)) in
        let own = own_of (AreAccessesOf list) (length run.program.tasks) accesses are a.task (below a begins) in
        let one = own.1.all a at.0 at.1 in
        record {
          stamped = one.0;
          stands = own.2 one.0 one.1;
          is = one.2;
          span = All-contains (IsSpan list a.task) own.0 one.0 own.1.spans one.1;
          so = All-contains (IsStampedSo list) own.0 one.0 own.1.decided one.1;
        }

  -- ---- at one moment

  own_begin : (a : access.Access) (later : History) → happenings_of a.task (beginning a ∷ later) ≡ happenings.Begin a ∷ happenings_of a.task later
  own_begin a later = rw (eq-eqb a.task a.task refl) refl

  own_split : (a : access.Access) (p q : History) → happenings_of a.task (p ++ beginning a ∷ q) ≡ happenings_of a.task p ++ happenings.Begin a ∷ happenings_of a.task q
  own_split a p q = of_both a.task p (beginning a ∷ q) ∙ ap (λ (d : List Happening). happenings_of a.task p ++ d) (own_begin a q)

  -- an access begins once in the history
  pub one_begin : (a : access.Access) (p q r t : History) → a.task < length run.program.tasks → history_of list ≡ p ++ beginning a ∷ q → history_of list ≡ r ++ beginning a ∷ t → p ≡ r
  one_begin a p q r t low is_p is_r =
      let did = did_of_all (list.tasks a.task) (made_by a.task records) in
      let own : happenings_of a.task (history_of list) ≡ did_by (list.tasks a.task) (made_by a.task records) = of_task run records list a.task low records in
      let whole : (x y : History) → history_of list ≡ x ++ beginning a ∷ y
      → (list.tasks a.task).whole.end.progress.did ≡ happenings_of a.task x ++ happenings.Begin a ∷ (happenings_of a.task y ++ did.0) =
      λ x y is. did.1 ∙ (ap (λ (d : List Happening). d ++ did.0) (sym own ∙ (ap (λ (h : History). happenings_of a.task h) is ∙ own_split a x y))
      ∙ append_assoc (happenings_of a.task x) (happenings.Begin a ∷ happenings_of a.task y) did.0) in
      let same : happenings_of a.task p ≡ happenings_of a.task r =
      once run records list a.task a (happenings_of a.task p) (happenings_of a.task q ++ did.0) (happenings_of a.task r) (happenings_of a.task t ++ did.0)
      (whole p q is_p) (whole r t is_r) in
      elim (fronts p r (beginning a) (beginning a) q t (sym is_p ∙ is_r)) [
        | inl one ↦ one
        | inr apart ↦ elim apart [
          | inl longer ↦ absurd (too_long (happenings_of a.task p) (happenings_of a.task longer.0) (happenings.Begin a)
              (same ∙ (ap (λ (h : History). happenings_of a.task h) longer.1 ∙ own_split a p longer.0)))
          | inr shorter ↦ absurd (too_long (happenings_of a.task r) (happenings_of a.task shorter.0) (happenings.Begin a)
              (sym same ∙ (ap (λ (h : History). happenings_of a.task h) shorter.1 ∙ own_split a r shorter.0)))
        ]
      ]
    where
      too_long : (d e : List Happening) (x : Happening) → d ≡ d ++ x ∷ e → ⊥
      too_long d e x is = let long : length d ≡ length (d ++ x ∷ e) = ap (λ (l : List Happening). length l) is in omega (arith, long, length-append d (x ∷ e))

  told_more : (later earlier : List Record) → (more : History) × (history_by list (later ++ earlier) ≡ history_by list earlier ++ more)
  told_more [] earlier = ([], sym (append-nil (history_by list earlier)))
  told_more (latest ∷ later) earlier =
      let its : History = moments_of latest.task (did_next (list.tasks latest.task) (made_by latest.task (later ++ earlier))) in
      let it = told_more later earlier in
      (it.0 ++ its, ap (λ (h : History). h ++ its) it.1 ∙ append_assoc (history_by list earlier) it.0 its)

  module _ (room : (task : ℕ) → task < length run.program.tasks → FitsTickets (block_sites (setting_of run.program run.places task) (task_of run task).body)) where
    -- of two accesses that were in progress at one moment each began before the other's end
    pub began_first : (task other : ℕ) (s t : Stamped) (moment : ℕ) → task < length run.program.tasks → IsSpan list task s → IsSpan list other t
        → InProgress (history_of list) s.access moment → InProgress (history_of list) t.access moment → s.begin < t.end
    began_first task other s t moment low span spanned goes goes_too =
        let h = span.begins in
        let k = spanned.ends in
        elim (spans.placed run records list each stamps few task other (happenings.Begin s.access) (happenings.End t.access) s.begin t.end h k) [
          | inl here ↦
              let equal : s.begin ≡ t.end =
              spans.stamp_is run records list each stamps few task (happenings.Begin s.access) s.begin refl h
              ∙ (ap stamps_in here.1 ∙ sym (spans.stamp_is run records list each stamps few other (happenings.End t.access) t.end refl k)) in
              let one = (spans.same_turn run records list each stamps few task other (happenings.Begin s.access) (happenings.End t.access) s.begin t.end refl refl h k equal).1 in
              absurd cc
          | inr apart ↦ elim apart [
            | inr before ↦ spans.rises run records list each stamps few task other (happenings.Begin s.access) (happenings.End t.access) s.begin t.end refl refl h k before.0 before.1
            | inl after ↦
                let fit = spans.its_fit run records list each stamps few room task s.access s.begin span.begins in
                let fit_too = spans.its_fit run records list each stamps few room other t.access t.begin spanned.begins in
                let front : History = history_by list h.earlier in
                let begins = spans.begins_after run records list each stamps few room task s.access s.begin h in
                let mine : k.latest.task ≡ t.access.task = k.mine ∙ sym fit_too.0 in
                let more = told_more after.0 (k.latest ∷ k.earlier) in
                let ends : Has (moments_of k.latest.task (did_next (list.tasks k.latest.task) (made_by k.latest.task k.earlier))) (ending t.access) =
                subst (λ (d : List Happening). Has (moments_of k.latest.task d) (ending t.access)) (sym k.did)
                (inl (ap (λ (n : ℕ). record { task = n; happening = happenings.End t.access }) mine)) in
                let in_front : Has front (ending t.access) =
                subst (λ (r : List Record). Has (history_by list r) (ending t.access)) (sym after.1)
                (subst (λ (r : History). Has r (ending t.access)) (sym more.1)
                (has_first (history_by list (k.latest ∷ k.earlier)) more.0 (ending t.access)
                (has_last (history_by list k.earlier) (moments_of k.latest.task (did_next (list.tasks k.latest.task) (made_by k.latest.task k.earlier))) (ending t.access) ends))) in
                let taken : History = take moment (history_of list) in
                let at = moment_split taken (beginning s.access) (contains_has taken (beginning s.access) goes.begun) in
                let whole : history_of list ≡ at.0 ++ beginning s.access ∷ (at.1 ++ drop moment (history_of list)) =
                sym (take-append-drop moment (history_of list)) ∙ (ap (λ (l : History). l ++ drop moment (history_of list)) at.2
                ∙ append_assoc at.0 (beginning s.access ∷ at.1) (drop moment (history_of list))) in
                let same : front ≡ at.0 =
                one_begin s.access front begins.later at.0 (at.1 ++ drop moment (history_of list))
                (subst (λ (n : ℕ). n < length run.program.tasks) (sym fit.0) low) begins.split whole in
                let in_taken : Has taken (ending t.access) =
                subst (λ (l : History). Has l (ending t.access)) (sym at.2)
                (has_first at.0 (beginning s.access ∷ at.1) (ending t.access) (subst (λ (l : History). Has l (ending t.access)) same in_front)) in
                absurd (goes_too.unended (has_contains taken (ending t.access) in_taken))
          ]
        ]

    pub at_once : (task other : ℕ) (s t : Stamped) (moment : ℕ) → task < length run.program.tasks → other < length run.program.tasks
        → IsSpan list task s → IsSpan list other t
        → InProgress (history_of list) s.access moment → InProgress (history_of list) t.access moment → AreInProgressAtOnce s t
    at_once task other s t moment low low_too span spanned goes goes_too = record {
      setter_first = began_first task other s t moment low span spanned goes goes_too;
      finder_first = began_first other task t s moment low_too spanned span goes_too goes;
    }
