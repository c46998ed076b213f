-- The accesses in progress at a moment of the history that an execution tells are those in progress at the end of one
-- of its beginnings.
use Rattle.std.proofs.Common.{◌≡◌, ◌<◌, ◌∙◌, ◌+◌, ◌-◌, ◌∷◌, ◌++◌, [], inl, inr, ℕ, zero, suc, All, Bool, true, false, Contains, List, ap, append_assoc, arith, cond, drop, filter, length}
use Rattle.std.proofs.Common.{refl, reverse, subst, sym, take}
use Rattle.std.proofs.Math.Seq.{take-append-add, take-nil}
use Rattle.std.proofs.lemmas.Bool.Decides.{leb_tells}
use Rattle.std.proofs.lemmas.List.{length-reverse, take-append-drop, take-append-le}
use Rattle.std.proofs.lemmas.List.Elements.{filter-append}
use Rattle.access_types.specs.Access.{Access}
use Rattle.access_types.specs.History.{History, InProgress, beginning, ending, happenings_of}
use Rattle.access_types.specs.declared.history.Happening.{Happening}
use Rattle.access_types.specs.declared.history.Happening.TheVariants as happenings
use Rattle.access_types.specs.declared.history.Moment.{Moment}
use Rattle.litmus_semantics.specs.Task as meaning
use Rattle.executions.specs.execution.Run.{Run, task_of, task_setting}
use Rattle.executions.specs.execution.Execution.{Execution, InWrittenOrder}
use Rattle.executions.specs.execution.Observed.{first_moments, history_by, history_of, made_by, moments_of}
use Rattle.executions.proofs.execution.Begun as begun
use Rattle.executions.proofs.execution.Histories.{did_of_all, front_of, has_own, in_progress, of_both, of_task, own_has, told_more}
use Rattle.executions.proofs.execution.Intervals.{Has, IsOpen, contains_has, has_contains, has_first}
use Rattle.executions.proofs.observation_determinism.Telling.{told_alike}
use Rattle.setup_access.specs.declared.begun.Begun.{Begun}
use Rattle.slot_table.specs.Records.{records_of}
use Rattle.slot_table.specs.declared.records.Record.{Record}
use Rattle.program_order.specs.InProgress.{IsInProgressAs, is_bound, moments_by}
use Rattle.program_order.specs.Standing.{Setting}
use Rattle.program_order.specs.TaskObserved.{did_by, did_next}
use Rattle.soundness.specs.Events.{AreMarks, DoesEvent, EachDoesItsEvent}
use Rattle.soundness.specs.InProgress.{AreBothInProgress, IsInProgressAfter, IsDecidedIn}
use Rattle.soundness.proofs.Bounds.{BoundsSo, NoneBound, event_bounds, marks_unbound, none_both}
use Rattle.soundness.proofs.Bounds as bounds
use Rattle.soundness.proofs.DecidedBegins.{DecidedNow, begun_so, decided_at, decided_so}
use Rattle.soundness.proofs.Opens.{has_split}
use Rattle.soundness.proofs.OwnDecisions.{decided_all}
use Rattle.soundness.proofs.Watches.{of_program}

-- the moments at which accesses begin and end
abbrev bounds_in : History → History
bounds_in history = filter (λ (m : Moment). is_bound m.happening) history

-- no access begins or ends at these
abbrev NoBounds : History → Type 0
NoBounds [] = Unit {0}
NoBounds (moment ∷ later) = (is_bound moment.happening ≡ false) × NoBounds later

no_bounds : (history : History) → NoBounds history → bounds_in history ≡ []
no_bounds [] none = refl
no_bounds (moment ∷ later) none = rw none.0 (no_bounds later none.1)

-- nor does any among the first of them
none_taken : (n : ℕ) (history : History) → NoBounds history → NoBounds (take n history)
none_taken n [] none = subst NoBounds (sym (take-nil n)) tt
none_taken zero (moment ∷ later) none = tt
none_taken (suc n) (moment ∷ later) none = (none.0, none_taken n later none.1)

none_of : (task : ℕ) (did : List Happening) → NoneBound did → NoBounds (moments_of task did)
none_of task [] none = tt
none_of task (happening ∷ did) none = (none.0, none_of task did none.1)

none_in_both : (first later : History) → NoBounds first → NoBounds later → NoBounds (first ++ later)
none_in_both [] later one two = two
none_in_both (moment ∷ first) later one two = (one.0, none_in_both first later one.1 two)

bounds_both : (first later : History) → bounds_in (first ++ later) ≡ bounds_in first ++ bounds_in later
bounds_both first later = filter-append (λ (m : Moment). is_bound m.happening) first later

-- a moment at which an access begins or ends is one of those at which any does
bound_kept : (history : History) (moment : Moment) → is_bound moment.happening ≡ true → Has history moment → Has (bounds_in history) moment
bound_kept [] moment is h = absurd h
bound_kept (first ∷ later) moment is h = elim h [
  | inl here ↦
      let same : is_bound first.happening ≡ true = ap (λ (m : Moment). is_bound m.happening) here ∙ is in rw same (inl here)
  | inr more ↦ by_first (is_bound first.happening) (bound_kept later moment is more)
]
  where
    by_first : (b : Bool) → Has (bounds_in later) moment → Has (cond b (first ∷ bounds_in later) (bounds_in later)) moment
    by_first true there = inr there
    by_first false there = there

bound_there : (history : History) (moment : Moment) → Has (bounds_in history) moment → Has history moment
bound_there [] moment h = absurd h
bound_there (first ∷ later) moment h = by_first (is_bound first.happening) (λ more. bound_there later moment more) h
  where
    by_first : (b : Bool) → (Has (bounds_in later) moment → Has later moment) → Has (cond b (first ∷ bounds_in later) (bounds_in later)) moment
        → Has (first ∷ later) moment
    by_first true rest there = elim there [ inl here ↦ inl here | inr more ↦ inr (rest more) ]
    by_first false rest there = inr (rest there)

-- where the begins and ends are the same an access begins or ends among the one if it does among the other
bound_same : (history other : History) (moment : Moment) → bounds_in history ≡ bounds_in other → is_bound moment.happening ≡ true → Has history moment
    → Has other moment
bound_same history other moment same is h =
    bound_there other moment (subst (λ (l : History). Has l moment) same (bound_kept history moment is h))

-- of what is done with a record the first alone may begin or end an access
first_bounds : (s : Setting) (before : List Happening) (task : ℕ) (latest : Record) (did : List Happening) (n : ℕ)
    → DoesEvent s before latest.step latest.answer did
    → bounds_in (take (suc n) (moments_of task did)) ≡ bounds_in (moments_of task did)
first_bounds s before task latest did n h = by_event (event_bounds s before latest.step latest.answer h.event h.is_event)
  where
    rest : NoneBound h.marks
    rest = marks_unbound h.marks h.are_marks

    by_event : BoundsSo latest.step h.event → bounds_in (take (suc n) (moments_of task did)) ≡ bounds_in (moments_of task did)
    by_event (bounds.bound happening clock is same) =
        let all : did ≡ happening ∷ h.marks = h.all ∙ ap (λ (e : List Happening). e ++ h.marks) same in
        let later : NoBounds (moments_of task h.marks) = none_of task h.marks rest in
        let none : bounds_in (take n (moments_of task h.marks)) ≡ bounds_in (moments_of task h.marks) =
        no_bounds (take n (moments_of task h.marks)) (none_taken n (moments_of task h.marks) later) ∙ sym (no_bounds (moments_of task h.marks) later) in
        subst (λ (d : List Happening). bounds_in (take (suc n) (moments_of task d)) ≡ bounds_in (moments_of task d)) (sym all)
        (ap (λ (l : History). cond (is_bound happening) (record { task = task; happening = happening } ∷ l) l) none)
    by_event (bounds.none other unbound) =
        let all : NoBounds (moments_of task did) = none_of task did (subst NoneBound (sym h.all) (none_both h.event h.marks unbound rest)) in
        no_bounds (take (suc n) (moments_of task did)) (none_taken (suc n) (moments_of task did) all) ∙ sym (no_bounds (moments_of task did) all)

module _ (run : Run) (records : List Record) (list : Execution run records) where
  -- the moments have the begins and ends of all that some of the records tell
  record EndsAt (moments : History) : Type 0 where
    later : List Record
    earlier : List Record
    split : records ≡ later ++ earlier
    same : bounds_in moments ≡ bounds_in (history_by list earlier)

  -- no access begins or ends before the first step of its task
  none_first : ((task : ℕ) → AreMarks (did_by (list.tasks task) 0)) → (n : ℕ) → NoBounds (first_moments list n)
  none_first first zero = tt
  none_first first (suc n) =
      none_in_both (first_moments list n) (moments_of n (did_by (list.tasks n) 0)) (none_first first n)
      (none_of n (did_by (list.tasks n) 0) (marks_unbound (did_by (list.tasks n) 0) (first n)))

  -- so it is of the moments up to any: those of one record after its first begin and end no access
  ends_at : ((task : ℕ) → AreMarks (did_by (list.tasks task) 0)) → (later earlier : List Record) → records ≡ later ++ earlier → EachDoesItsEvent list earlier
      → (moment : ℕ) → EndsAt (take moment (history_by list earlier))
  ends_at first later [] is each moment =
      let none = none_first first (length run.program.tasks) in record {
        later = later;
        earlier = [];
        split = is;
        same = no_bounds (take moment (history_by list [])) (none_taken moment (history_by list []) none) ∙ sym (no_bounds (history_by list []) none);
      }
  ends_at first later (latest ∷ earlier) is each moment =
      let told : History = history_by list earlier in
      let did : List Happening = did_next (list.tasks latest.task) (made_by latest.task earlier) in
      let its : History = moments_of latest.task did in
      elim (leb_tells moment (length told)) [
        | inl within ↦
            subst EndsAt (sym (take-append-le moment told its within.1))
            (ends_at first (later ++ latest ∷ []) earlier (is ∙ sym (append_assoc later (latest ∷ []) earlier)) each.0 moment)
        | inr past ↦
            let n : ℕ = moment - suc (length told) in
            let beyond : length told < moment = past.1 in
            let far : length told + suc n ≡ moment = omega (arith, beyond) in
            let taken : take moment (told ++ its) ≡ told ++ take (suc n) its =
            ap (λ (m : ℕ). take m (told ++ its)) (sym far) ∙ take-append-add told its (suc n) in
            record {
              later = later;
              earlier = latest ∷ earlier;
              split = is;
              same = ap (λ (h : History). bounds_in h) taken
                  ∙ (bounds_both told (take (suc n) its)
                  ∙ (ap (λ (b : History). bounds_in told ++ b)
                  (first_bounds (task_setting run latest.task) (did_by (list.tasks latest.task) (made_by latest.task earlier)) latest.task latest did n each.1)
                  ∙ sym (bounds_both told its)));
            }
      ]

  -- a task did the same by any reading of these records
  pub did_same : (task : ℕ) (later earlier : List Record) → records ≡ later ++ earlier → (written : InWrittenOrder run task (records_of task earlier))
      → did_by (list.tasks task) (made_by task earlier) ≡ did_by written (made_by task earlier)
  did_same task later earlier is written =
      let own : List Record = reverse (records_of task earlier) in
      let front = front_of run records list task later earlier is in
      let long : length own ≡ made_by task earlier = length-reverse (records_of task earlier) in
      let alike = told_alike (task_setting run task) (length (task_of run task).registers) (task_of run task).body own (reverse (records_of task records)) own
      front.0 written.more (list.tasks task) written front.1 refl in
      ap (λ (p : meaning.Progress). p.did) (alike.stands (made_by task earlier) (omega (arith, long))).progress

  -- what is so at the end is so in the history
  module _ (one : Begun) (goes : IsInProgressAfter run records one) where
    abbrev task : ℕ
    task = one.access.task

    at_end : IsInProgressAs (task_setting run task) (did_by (list.tasks task) (made_by task records)) one
    at_end = goes (list.tasks task)

    open_at_end : IsOpen (did_by (list.tasks task) (made_by task records)) one.access
    open_at_end =
        let did : List Happening = did_by (list.tasks task) (made_by task records) in
        record {
          begun = contains_has did (happenings.Begin one.access) at_end.in_progress.begun;
          unended = λ ended. at_end.in_progress.unended (has_contains did (happenings.End one.access) ended);
        }

    below_at_end : task < length run.program.tasks
    below_at_end = begun.is_below run records list one.access (of_program run records list task (made_by task records) one.access refl open_at_end)

    pub goes_at_end : InProgress (history_of list) one.access (length (history_of list))
    goes_at_end = in_progress run records list [] records refl one.access below_at_end open_at_end

    pub decided_at_end : IsDecidedIn run.rules.plain_writes_atomic (history_of list) one.access one
    decided_at_end =
        decided_all run.rules.plain_writes_atomic (history_of list) one.access one
        (subst (λ (d : List Happening). IsDecidedIn run.rules.plain_writes_atomic (moments_of task d) one.access one)
        (sym (of_task run records list task below_at_end records)) (record { marked = at_end.marked; silenced = at_end.silenced }))

  -- what is in progress at the end of a beginning was decided as it began
  pub record Decided (later earlier : List Record) (a : Access) : Type 0 where
    pub one : Begun
    pub access : one.access ≡ a
    pub goes : IsInProgressAfter run earlier one
    pub decided : IsDecidedIn run.rules.plain_writes_atomic (history_of list) a one

  pub decided_by : (later earlier : List Record) → records ≡ later ++ earlier → (a : Access) → a.task < length run.program.tasks
      → IsOpen (did_by (list.tasks a.task) (made_by a.task earlier)) a → Decided later earlier a
  decided_by later earlier is a below goes =
      let task : ℕ = a.task in
      let plain : Bool = run.rules.plain_writes_atomic in
      let s : Setting = task_setting run task in
      let registers : ℕ = length (task_of run task).registers in
      let written = list.tasks task in
      let whole : List Record = reverse (records_of task records) ++ written.more in
      let did : List Happening = did_by written (made_by task earlier) in
      let all_did : List Happening = did_by written (made_by task records) in
      let split = has_split did (happenings.Begin a) goes.begun in
      let p : List Happening = split.0 in
      let rest = did_of_all written (made_by task earlier) in
      let all_rest = did_of_all written (made_by task records) in
      let ends : written.whole.end.progress.did ≡ p ++ happenings.Begin a ∷ (split.1 ++ rest.0) =
      rest.1 ∙ (ap (λ (d : List Happening). d ++ rest.0) split.2 ∙ append_assoc p (happenings.Begin a ∷ split.1) rest.0) in
      let now : DecidedNow s p a = decided_at s registers (task_of run task).body whole written.whole a p (split.1 ++ rest.0) ends in
      let one : Begun = begun_so s p a now in
      let by_then : IsDecidedIn plain (moments_by s did) a one =
      decided_so s registers (task_of run task).body whole written.whole a p split.1 rest.0 did split.2 rest.1 now in
      let more = told_more run records list later earlier in
      let told : history_of list ≡ history_by list earlier ++ more.0 = ap (λ (r : List Record). history_by list r) is ∙ more.1 in
      let grown : all_did ≡ did ++ happenings_of task more.0 =
      sym (of_task run records list task below records)
      ∙ (ap (λ (h : History). happenings_of task h) told
      ∙ (of_both task (history_by list earlier) more.0
      ∙ ap (λ (d : List Happening). d ++ happenings_of task more.0) (of_task run records list task below earlier))) in
      let all_split : all_did ≡ p ++ happenings.Begin a ∷ (split.1 ++ happenings_of task more.0) =
      grown ∙ (ap (λ (d : List Happening). d ++ happenings_of task more.0) split.2
      ∙ append_assoc p (happenings.Begin a ∷ split.1) (happenings_of task more.0)) in
      let in_all : IsDecidedIn plain (moments_by s all_did) a one =
      decided_so s registers (task_of run task).body whole written.whole a p (split.1 ++ happenings_of task more.0) all_rest.0 all_did all_split all_rest.1
      now in
      record {
        one = one;
        access = refl;
        goes = λ reading. subst (λ (d : List Happening). IsInProgressAs s d one) (did_same task later earlier is reading) (record {
          own = refl;
          in_progress = record {
            begun = has_contains did (happenings.Begin a) goes.begun;
            unended = λ ended. goes.unended (contains_has did (happenings.End a) ended);
          };
          marked = by_then.marked;
          silenced = by_then.silenced;
        });
        decided = decided_all plain (history_of list) a one
            (subst (λ (d : List Happening). IsDecidedIn plain (moments_of task d) a one) (sym (of_task run records list task below records)) in_all);
      }

  -- an access in progress at a moment, where its task's begins and ends are those that some of the records tell
  open_then : (moments : History) (a : Access) → a.task < length run.program.tasks → (at : EndsAt moments) → Contains moments (beginning a)
      → ¬ Contains moments (ending a) → IsOpen (did_by (list.tasks a.task) (made_by a.task at.earlier)) a
  open_then moments a below at begins unended =
      let told : History = history_by list at.earlier in
      let own : happenings_of a.task told ≡ did_by (list.tasks a.task) (made_by a.task at.earlier) = of_task run records list a.task below at.earlier in
      record {
        begun = subst (λ (d : List Happening). Has d (happenings.Begin a)) own
            (has_own a.task told (happenings.Begin a)
            (bound_same moments told (beginning a) at.same refl (contains_has moments (beginning a) begins)));
        unended = λ ended. unended (has_contains moments (ending a)
            (bound_same told moments (ending a) (sym at.same) refl
            (own_has a.task told (happenings.End a) (subst (λ (d : List Happening). Has d (happenings.End a)) (sym own) ended))));
      }

  -- what is one of the first is one of all
  has_front : (n : ℕ) (history : History) (moment : Moment) → Has (take n history) moment → Has history moment
  has_front n history moment h =
      subst (λ (l : History). Has l moment) (take-append-drop n history) (has_first (take n history) (drop n history) moment h)

  -- what is so of all is so of each
  all_has : (P : Moment → Type 0) (history : History) (moment : Moment) → All P history → Has history moment → P moment
  all_has P [] moment all h = absurd h
  all_has P (first ∷ later) moment all h = elim h [
    | inl here ↦ subst P here (all 0 first (omega arith))
    | inr more ↦ all_has P later moment (λ place other inside. all (suc place) other (omega (arith, inside))) more
  ]

  -- two accesses that are in progress at one moment, of one task or of two
  pub both_go : ((task : ℕ) → AreMarks (did_by (list.tasks task) 0)) → EachDoesItsEvent list records
      → All (λ (m : Moment). m.task < length run.program.tasks) (history_of list)
      → (first second : Access) (moment : ℕ) → InProgress (history_of list) first moment → InProgress (history_of list) second moment
      → AreBothInProgress list first second
  both_go marks each tasks first second moment one_goes other_goes =
      let moments : History = take moment (history_of list) in
      let at : EndsAt moments = ends_at marks [] records refl each moment in
      let below : (a : Access) → InProgress (history_of list) a moment → a.task < length run.program.tasks =
      λ a goes. all_has (λ (m : Moment). m.task < length run.program.tasks) (history_of list) (beginning a) tasks
      (has_front moment (history_of list) (beginning a) (contains_has moments (beginning a) goes.begun)) in
      let one = decided_by at.later at.earlier at.split first (below first one_goes)
      (open_then moments first (below first one_goes) at one_goes.begun one_goes.unended) in
      let other = decided_by at.later at.earlier at.split second (below second other_goes)
      (open_then moments second (below second other_goes) at other_goes.begun other_goes.unended) in
      record {
        later = at.later;
        earlier = at.earlier;
        split = at.split;
        one = one.one;
        other = other.one;
        first_is = one.access;
        second_is = other.access;
        first_goes = one.goes;
        second_goes = other.goes;
        first_decided = one.decided;
        second_decided = other.decided;
      }
