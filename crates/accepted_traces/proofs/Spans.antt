-- The stamps, the names and the letters of the accesses that have ended in an execution.
use Rattle.std.proofs.Common.{◌≡◌, ◌≢◌, ◌<◌, ◌≤◌, ◌+◌, ◌^◌, ◌⊎◌, ◌∙◌, ◌++◌, ◌∷◌, [], inl, inr, ℕ, suc, zero, Bool, true, false, All, AllPairs, IsTrue, List}
use Rattle.std.proofs.Common.{Some, ap, append_assoc, append-nil, arith, if◌then◌else◌, length, refl, reverse, slice_get, slice_index_or, subst, sym, unwrap_or}
use Rattle.std.proofs.lemmas.List.{length-append}
use Rattle.std.proofs.lemmas.List.Elements.{All-append, All-nil, All-weaker}
use Rattle.access_types.specs.Access as access
use Rattle.access_types.specs.History.{History, beginning}
use Rattle.access_types.specs.Kind.{is_assertion, is_marked}
use Rattle.access_types.specs.Marked as marked
use Rattle.access_types.specs.Marked.{BeginsAfter, CountedAsMarked, CountsAfter}
use Rattle.access_types.specs.Stamped.{Stamped}
use Rattle.access_types.specs.Ticket.{ticket_number}
use Rattle.access_types.specs.declared.history.Happening.{Happening}
use Rattle.access_types.specs.declared.history.Happening.TheVariants as happenings
use Rattle.access_types.specs.declared.kind.Kind.{Kind}
use Rattle.access_types.specs.declared.kind.Kind.TheVariants as kinds
use Rattle.litmus_semantics.specs.RunOfProgram.{setting_of}
use Rattle.litmus_semantics.specs.TextSites.{FitsTickets, block_sites}
use Rattle.litmus_semantics.proofs.TicketLemmas.{own_tickets}
use Rattle.report_text.specs.Standing.{LettersAgree}
use Rattle.executions.specs.execution.Run.{Run, task_of, task_setting}
use Rattle.executions.specs.execution.Execution.{Execution}
use Rattle.executions.specs.execution.Observed.{history_by, history_of, made_by, moments_of}
use Rattle.executions.proofs.execution.Histories.{did_more, did_of_all, did_then}
use Rattle.executions.proofs.execution.Intervals.{Has, has_last}
use Rattle.executions.proofs.execution.OwnLasts.{own_latest, own_split}
use Rattle.log_correctness.specs.Decided.{IsStampedSo}
use Rattle.log_correctness.specs.Spans.{HappensAt, IsSpan}
use Rattle.log_correctness.specs.Lists.{AreAccesses, AreAccessesOf, ByTask}
use Rattle.soundness.specs.Events.{DoesEvent, EachDoesItsEvent}
use Rattle.soundness.proofs.Opens.{has_split}
use Rattle.slot_table.specs.Records.{records_of}
use Rattle.slot_table.specs.declared.records.Record.{Record}
use Rattle.slot_table.specs.declared.step.Answer.TheVariants as answers
use Rattle.slot_table.specs.declared.step.Step.{Step}
use Rattle.slot_table.specs.declared.step.Step.TheVariants as steps
use Rattle.log_correctness.specs.Stamps.{is_clock, stamps_in}
use Rattle.log_correctness.proofs.Checked.{all_fit, all_later}
use Rattle.log_correctness.proofs.Clock.{event_turns, one_more, turns, turns_both, turns_of_marks}
use Rattle.executions.proofs.execution.Begun.{once}
use Rattle.program_order.specs.TaskObserved.{did_by, did_next}
use Rattle.program_order.proofs.MeaningLemmas.{whole_means}
use Rattle.program_order.proofs.WayLemmas.{Begins}
use Rattle.accepted_traces.specs.Parts.{AccessFits, AreOther, HasLowMask}

-- ---- lists

-- of two places in a list one is before the other, or they are one
two_splits : {X : Type 0} (p r : List X) (a b : X) (q t : List X) → p ++ a ∷ q ≡ r ++ b ∷ t
    → ((a ≡ b) × (q ≡ t)) ⊎ (((x : List X) × (q ≡ x ++ b ∷ t)) ⊎ ((x : List X) × (t ≡ x ++ a ∷ q)))
two_splits [] [] a b q t is = inl (cc, cc)
two_splits [] (y ∷ r) a b q t is = inr (inl (r, cc))
two_splits (y ∷ p) [] a b q t is = inr (inr (p, let back : p ++ a ∷ q ≡ t = cc in sym back))
two_splits (y ∷ p) (z ∷ r) a b q t is = two_splits p r a b q t (cc)

pub split_of : {X : Type 0} (xs ys p q : List X) (x : X) → xs ++ ys ≡ p ++ x ∷ q
    → ((t : List X) × (xs ≡ p ++ x ∷ t)) ⊎ ((u : List X) × (p ≡ xs ++ u) × (ys ≡ u ++ x ∷ q))
split_of [] ys p q x is = inr (p, refl, is)
split_of (y ∷ xs) ys [] q x is = let first : y ≡ x = cc in inl (xs, ap (λ z. z ∷ xs) first)
split_of (y ∷ xs) ys (z ∷ p) q x is =
    let first : y ≡ z = cc in
    let more : xs ++ ys ≡ p ++ x ∷ q = cc in
    elim (split_of xs ys p q x more) [
      | inl here ↦ inl (here.0, ap (λ w. w ∷ xs) first ∙ ap (λ l. z ∷ l) here.1)
      | inr there ↦ inr (there.0, ap (λ w. w ∷ p) (sym first) ∙ ap (λ l. y ∷ l) there.1, there.2)
    ]

at_front : {X : Type 0} (u ys : List X) (k : ℕ) (d : X) → k < length u → slice_index_or (u ++ ys) k d ≡ slice_index_or u k d
at_front [] ys k d below = absurd (omega (arith, below))
at_front (x ∷ u) ys zero d below = refl
at_front (x ∷ u) ys (suc k) d below = at_front u ys k d (omega (arith, below))

at_middle : {X : Type 0} (u later : List X) (s d : X) → slice_index_or (u ++ s ∷ later) (length u) d ≡ s
at_middle [] later s d = refl
at_middle (x ∷ u) later s d = at_middle u later s d

pairs_before : {X : Type 0} (R : X → X → Type 0) (own u later : List X) (s : X) → own ≡ u ++ s ∷ later → AllPairs R own → All (λ t. R t s) u
pairs_before R own u later s is pairs = λ k d below.
    let here : AllPairs R (u ++ s ∷ later) = subst (λ xs. AllPairs R xs) is pairs in
    let it = here k (length u) d below (omega (arith, length-append u (s ∷ later))) in
    subst (λ y. R (slice_index_or u k d) y) (at_middle u later s d) (subst (λ x. R x (slice_index_or (u ++ s ∷ later) (length u) d)) (at_front u (s ∷ later) k d below) it)

pub clock_step : (step : Step) → is_clock step ≡ true → step ≡ steps.Clock
clock_step (steps.Load index) is = absurd cc
clock_step (steps.Insert index word) is = absurd cc
clock_step (steps.TryConsume index word) is = absurd cc
clock_step (steps.Consume index) is = absurd cc
clock_step (steps.Remove index) is = absurd cc
clock_step (steps.PairLoad index) is = absurd cc
clock_step (steps.Name index ticket) is = absurd cc
clock_step (steps.Tell index ticket) is = absurd cc
clock_step (steps.Clear index) is = absurd cc
clock_step (steps.CellLoad cell) is = absurd cc
clock_step (steps.CellExchange cell expected new) is = absurd cc
clock_step (steps.LockTry lock holder) is = absurd cc
clock_step (steps.LockStore lock) is = absurd cc
clock_step steps.Clock is = refl

stamps_more : (xs ys : List Record) → stamps_in ys ≤ stamps_in (xs ++ ys)
stamps_more [] ys = omega arith
stamps_more (x ∷ xs) ys = omega (arith, one_more x (xs ++ ys), stamps_more xs ys)

-- a begin or an end
abbrev pub IsTurn : Happening → Type 0
IsTurn happening = turns (happening ∷ []) ≡ 1

assertion_unmarked : (kind : Kind) → IsTrue (is_assertion kind) → IsTrue (is_marked kind) → ⊥
assertion_unmarked (kinds.Plain operation) a m = absurd cc
assertion_unmarked (kinds.Marked operation) a m = absurd cc
assertion_unmarked (kinds.Assert claim) a m = absurd cc
assertion_unmarked (kinds.AssertScoped claim) a m = absurd cc

assertion_counts : (atomic : Bool) (a : access.Access) (before : History) → IsTrue (is_assertion a.kind) → CountsAfter atomic a before → ⊥
assertion_counts atomic a before is (marked.declared m) = assertion_unmarked a.kind is m
assertion_counts atomic a before is (marked.atomic_write not w) = not is
assertion_counts atomic a before is (marked.within_next not w n) = not is
assertion_counts atomic a before is (marked.in_nest not n) = not is
assertion_counts atomic a before is (marked.in_flat not n) = not is

module _ (run : Run) (records : List Record) (list : Execution run records) (each : EachDoesItsEvent list records)
    (stamps : (later earlier : List Record) (latest : Record) → records ≡ later ++ latest ∷ earlier → latest.step ≡ steps.Clock
    → latest.answer ≡ answers.Word (stamps_in earlier)) (few : stamps_in records < 2 ^ 64) where
  each_at : (later : List Record) (latest : Record) (earlier : List Record) → EachDoesItsEvent list (later ++ latest ∷ earlier)
      → DoesEvent (task_setting run latest.task) (did_by (list.tasks latest.task) (made_by latest.task earlier)) latest.step latest.answer
      (did_next (list.tasks latest.task) (made_by latest.task earlier))
  each_at [] latest earlier does = does.1
  each_at (x ∷ later) latest earlier does = each_at later latest earlier does.0

  module _ (task : ℕ) (happening : Happening) (stamp : ℕ) (turn : IsTurn happening) (h : HappensAt list task happening stamp) where
    pub at_clock : h.latest.step ≡ steps.Clock
    at_clock =
        let event = each_at h.later h.latest h.earlier (subst (EachDoesItsEvent list) h.split each) in
        let did : happening ∷ h.marks ≡ event.event ++ event.marks = sym h.did ∙ event.all in
        let count : turns (happening ∷ h.marks) ≡ turns event.event + turns event.marks = ap turns did ∙ turns_both event.event event.marks in
        let first : turns (happening ∷ h.marks) ≡ turns (happening ∷ []) + turns h.marks = turns_both (happening ∷ []) h.marks in
        clock_step h.latest.step (by (is_clock h.latest.step)
        (omega (arith, count, first, turn, turns_of_marks event.marks event.are_marks))
        (event_turns (task_setting run h.latest.task) (did_by (list.tasks h.latest.task) (made_by h.latest.task h.earlier)) h.latest.step h.latest.answer
        event.event event.is_event))
      where
        by : {event : ℕ} (b : Bool) → 1 ≤ event → event ≡ (if b then 1 else 0) → b ≡ true
        by true some is = refl
        by false some is = absurd (omega (arith, some, is))

    pub stamp_is : stamp ≡ stamps_in h.earlier
    stamp_is =
        let one : answers.Word stamp ≡ answers.Word (stamps_in h.earlier) = sym h.answer ∙ stamps h.later h.earlier h.latest h.split at_clock in cc

  -- a later step of the clock has a higher stamp
  pub rises : (task other : ℕ) (x y : Happening) (one two : ℕ) → IsTurn x → IsTurn y → (h : HappensAt list task x one) (k : HappensAt list other y two)
      → (between : List Record) → k.earlier ≡ between ++ h.latest ∷ h.earlier → one < two
  rises task other x y one two turn_x turn_y h k between is =
      let clock : is_clock h.latest.step ≡ true = ap is_clock (at_clock task x one turn_x h) in
      let first : stamps_in (h.latest ∷ h.earlier) ≡ 1 + stamps_in h.earlier =
      one_more h.latest h.earlier ∙ ap (λ (b : Bool). (if b then 1 else 0) + stamps_in h.earlier) clock in
      let more : stamps_in (h.latest ∷ h.earlier) ≤ stamps_in (between ++ h.latest ∷ h.earlier) = stamps_more between (h.latest ∷ h.earlier) in
      let all : stamps_in k.earlier ≡ stamps_in (between ++ h.latest ∷ h.earlier) = ap stamps_in is in
      omega (arith, first, more, all, stamp_is task x one turn_x h, stamp_is other y two turn_y k)

  -- where two stand to each other
  abbrev pub Placed : {task other : ℕ} {x y : Happening} {one two : ℕ} → HappensAt list task x one → HappensAt list other y two → Type 0
  Placed h k = ((h.latest ≡ k.latest) × (h.earlier ≡ k.earlier))
      ⊎ (((between : List Record) × (h.earlier ≡ between ++ k.latest ∷ k.earlier))
      ⊎ ((between : List Record) × (k.earlier ≡ between ++ h.latest ∷ h.earlier)))

  pub placed : (task other : ℕ) (x y : Happening) (one two : ℕ) (h : HappensAt list task x one) (k : HappensAt list other y two) → Placed h k
  placed task other x y one two h k = two_splits h.later k.later h.latest k.latest h.earlier k.earlier (sym h.split ∙ k.split)

  -- at one record of the clock is one turn
  same_record : (task other : ℕ) (x y : Happening) (one two : ℕ) (h : HappensAt list task x one) (k : HappensAt list other y two)
      → h.latest ≡ k.latest → h.earlier ≡ k.earlier → (task ≡ other) × (x ≡ y)
  same_record task other x y one two h k latest earlier =
      let tasks : task ≡ other = sym h.mine ∙ (ap (λ (r : Record). r.task) latest ∙ k.mine) in
      let nexts : did_next (list.tasks h.latest.task) (made_by h.latest.task h.earlier) ≡ did_next (list.tasks k.latest.task) (made_by k.latest.task k.earlier) =
      ap (λ (r : Record). did_next (list.tasks r.task) (made_by r.task h.earlier)) latest
      ∙ ap (λ (e : List Record). did_next (list.tasks k.latest.task) (made_by k.latest.task e)) earlier in
      let heads : x ∷ h.marks ≡ y ∷ k.marks = sym h.did ∙ (nexts ∙ k.did) in
      (tasks, cc)

  -- so equal stamps are of one turn
  pub same_turn : (task other : ℕ) (x y : Happening) (one two : ℕ) → IsTurn x → IsTurn y → (h : HappensAt list task x one) (k : HappensAt list other y two)
      → one ≡ two → (task ≡ other) × (x ≡ y)
  same_turn task other x y one two turn_x turn_y h k same = elim (placed task other x y one two h k) [
    | inl here ↦ same_record task other x y one two h k here.0 here.1
    | inr apart ↦ elim apart [
      | inl after ↦ let low = rises other task y x two one turn_y turn_x k h after.0 after.1 in absurd (omega (arith, low, same))
      | inr before ↦ let low = rises task other x y one two turn_x turn_y h k before.0 before.1 in absurd (omega (arith, low, same))
    ]
  ]

  -- ---- what its task had done before

  abbrev pub done_before : {task : ℕ} {x : Happening} {one : ℕ} → HappensAt list task x one → List Happening
  done_before {task = task} h = did_by (list.tasks task) (made_by task h.earlier)

  next_is : (task : ℕ) (x : Happening) (one : ℕ) (h : HappensAt list task x one) → did_next (list.tasks task) (made_by task h.earlier) ≡ x ∷ h.marks
  next_is task x one h = ap (λ (t : ℕ). did_next (list.tasks t) (made_by t h.earlier)) (sym h.mine) ∙ h.did

  did_upto : (task made more : ℕ) → Begins (did_by (list.tasks task) made) (did_by (list.tasks task) (made + more))
  did_upto task made zero = ([], ap (λ (n : ℕ). did_by (list.tasks task) n) (omega arith) ∙ sym (append-nil (did_by (list.tasks task) made)))
  did_upto task made (suc more) =
      let before = did_upto task made more in
      let now = did_more (list.tasks task) (made + more) in
      let next : made + suc more ≡ made + more + 1 = omega arith in (
        before.0 ++ now.0,
        ap (λ (n : ℕ). did_by (list.tasks task) n) next ∙ (now.1 ∙ (ap (λ (d : List Happening). d ++ now.0) before.1
            ∙ append_assoc (did_by (list.tasks task) made) before.0 now.0)),
      )

  -- all that the task did begins with it, and this
  pub in_all : (task : ℕ) (x : Happening) (one : ℕ) (h : HappensAt list task x one)
      → (rest : List Happening) × ((list.tasks task).whole.end.progress.did ≡ done_before h ++ x ∷ rest)
  in_all task x one h =
      let made : ℕ = made_by task h.earlier in
      let all = did_of_all (list.tasks task) (made + 1) in
      let by_now : done_before h ++ (x ∷ h.marks) ≡ did_by (list.tasks task) (made + 1) =
      ap (λ (d : List Happening). done_before h ++ d) (sym (next_is task x one h)) ∙ did_then (list.tasks task) made in (
        h.marks ++ all.0,
        all.1 ∙ (ap (λ (d : List Happening). d ++ all.0) (sym by_now) ∙ append_assoc (done_before h) (x ∷ h.marks) all.0),
      )

  -- what was done before a later turn of the task has the earlier one in it
  pub in_later : (task : ℕ) (x y : Happening) (one two : ℕ) (h : HappensAt list task x one) (k : HappensAt list task y two) (between : List Record)
      → k.earlier ≡ between ++ h.latest ∷ h.earlier → (rest : List Happening) × (done_before k ≡ done_before h ++ x ∷ rest)
  in_later task x y one two h k between is =
      let made : ℕ = made_by task h.earlier in
      let own : records_of task k.earlier ≡ records_of task between ++ (h.latest ∷ records_of task h.earlier) =
      ap (λ (r : List Record). records_of task r) is ∙ (own_split task between (h.latest ∷ h.earlier)
      ∙ ap (λ (r : List Record). records_of task between ++ r) (own_latest task h.latest h.earlier h.mine)) in
      let more : ℕ = length (records_of task between) in
      let count : made_by task k.earlier ≡ made + 1 + more =
      let l : length (records_of task k.earlier) ≡ length (records_of task between) + suc made =
      ap (λ (r : List Record). length r) own ∙ length-append (records_of task between) (h.latest ∷ records_of task h.earlier) in
      omega (arith, l) in
      let on = did_upto task (made + 1) more in
      let by_now : done_before h ++ (x ∷ h.marks) ≡ did_by (list.tasks task) (made + 1) =
      ap (λ (d : List Happening). done_before h ++ d) (sym (next_is task x one h)) ∙ did_then (list.tasks task) made in (
        h.marks ++ on.0,
        ap (λ (n : ℕ). did_by (list.tasks task) n) count ∙ (on.1
            ∙ (ap (λ (d : List Happening). d ++ on.0) (sym by_now) ∙ append_assoc (done_before h) (x ∷ h.marks) on.0)),
      )

  there : (before later : List Happening) (x : Happening) → slice_get (before ++ x ∷ later) (length before) ≡ Some x
  there [] later x = refl
  there (first ∷ before) later x = there before later x

  -- tickets have room in the texts of the program
  module _ (room : (task : ℕ) → task < length run.program.tasks → FitsTickets (block_sites (setting_of run.program run.places task) (task_of run task).body)) where
    -- two begins of a task with one ticket stand at one place
    one_ticket : (task : ℕ) (a b : access.Access) (i j : ℕ) → task < length run.program.tasks → i < j
        → slice_get (list.tasks task).whole.end.progress.did i ≡ Some (happenings.Begin a)
        → slice_get (list.tasks task).whole.end.progress.did j ≡ Some (happenings.Begin b) → ticket_number a ≢ ticket_number b
    one_ticket task a b i j below less first second =
        let means = whole_means (task_setting run task) (length (task_of run task).registers) (task_of run task).body
        (reverse (records_of task records) ++ (list.tasks task).more) (list.tasks task).whole in
        own_tickets (setting_of run.program run.places task) (task_of run task).body _ (list.tasks task).whole.end.progress means (room task below)
        i j a b less first second

    place_of : (task : ℕ) (a : access.Access) (one : ℕ) (h : HappensAt list task (happenings.Begin a) one)
        → slice_get (list.tasks task).whole.end.progress.did (length (done_before h)) ≡ Some (happenings.Begin a)
    place_of task a one h =
        let it = in_all task (happenings.Begin a) one h in
        subst (λ (d : List Happening). slice_get d (length (done_before h)) ≡ Some (happenings.Begin a)) (sym it.1) (there (done_before h) it.0 (happenings.Begin a))

    later_ticket : (task : ℕ) (a b : access.Access) (one two : ℕ) → task < length run.program.tasks → (h : HappensAt list task (happenings.Begin a) one)
        (k : HappensAt list task (happenings.Begin b) two) (between : List Record) → k.earlier ≡ between ++ h.latest ∷ h.earlier
        → ticket_number a ≢ ticket_number b
    later_ticket task a b one two below h k between is =
        let it = in_later task (happenings.Begin a) (happenings.Begin b) one two h k between is in
        let long : length (done_before k) ≡ length (done_before h) + length (happenings.Begin a ∷ it.0) =
        ap (λ (d : List Happening). length d) it.1 ∙ length-append (done_before h) (happenings.Begin a ∷ it.0) in
        one_ticket task a b (length (done_before h)) (length (done_before k)) below (omega (arith, long)) (place_of task a one h) (place_of task b two k)

    -- a ticket is of one begin
    pub same_begin : (task : ℕ) (a b : access.Access) (one two : ℕ) → task < length run.program.tasks → HappensAt list task (happenings.Begin a) one
        → HappensAt list task (happenings.Begin b) two → ticket_number a ≡ ticket_number b → one ≡ two
    same_begin task a b one two below h k same = elim (placed task task (happenings.Begin a) (happenings.Begin b) one two h k) [
      | inl here ↦
          stamp_is task (happenings.Begin a) one refl h ∙ (ap stamps_in here.1 ∙ sym (stamp_is task (happenings.Begin b) two refl k))
      | inr apart ↦ elim apart [
        | inl after ↦ absurd (later_ticket task b a two one below k h after.0 after.1 (sym same))
        | inr before ↦ absurd (later_ticket task a b one two below h k before.0 before.1 same)
      ]
    ]

    -- an access ends after it began
    pub ends_later : (task : ℕ) (a : access.Access) (one two : ℕ) → HappensAt list task (happenings.Begin a) one → HappensAt list task (happenings.End a) two → one < two
    ends_later task a one two h k = elim (placed task task (happenings.Begin a) (happenings.End a) one two h k) [
      | inl here ↦ let no : happenings.Begin a ≡ happenings.End a = (same_record task task (happenings.Begin a) (happenings.End a) one two h k here.0 here.1).1 in absurd cc
      | inr apart ↦ elim apart [
        | inl after ↦
            let did : List Happening = (list.tasks task).whole.end.progress.did in
            let ended = in_all task (happenings.End a) two k in
            let began = all_later (task_setting run task) (length (task_of run task).registers) (task_of run task).body
            (reverse (records_of task records) ++ (list.tasks task).more) (list.tasks task).whole (done_before k) ended.0 a ended.1 in
            let at = has_split (done_before k) (happenings.Begin a) began in
            let again : did ≡ at.0 ++ happenings.Begin a ∷ (at.1 ++ happenings.End a ∷ ended.0) =
            ended.1 ∙ (ap (λ (d : List Happening). d ++ happenings.End a ∷ ended.0) at.2 ∙ append_assoc at.0 (happenings.Begin a ∷ at.1) (happenings.End a ∷ ended.0)) in
            let begun = in_all task (happenings.Begin a) one h in
            let same : at.0 ≡ done_before h = once run records list task a at.0 (at.1 ++ happenings.End a ∷ ended.0) (done_before h) begun.0 again begun.1 in
            let long : length (done_before k) ≡ length at.0 + length (happenings.Begin a ∷ at.1) =
            ap (λ (d : List Happening). length d) at.2 ∙ length-append at.0 (happenings.Begin a ∷ at.1) in
            let more = in_later task (happenings.End a) (happenings.Begin a) two one k h after.0 after.1 in
            let longer : length (done_before h) ≡ length (done_before k) + length (happenings.End a ∷ more.0) =
            ap (λ (d : List Happening). length d) more.1 ∙ length-append (done_before k) (happenings.End a ∷ more.0) in
            let as_long : length at.0 ≡ length (done_before h) = ap (λ (d : List Happening). length d) same in
            absurd (omega (arith, long, longer, as_long))
        | inr before ↦ rises task task (happenings.Begin a) (happenings.End a) one two refl refl h k before.0 before.1
      ]
    ]

    -- the access is of the task, within the limits, and has bytes
    pub its_fit : (task : ℕ) (a : access.Access) (one : ℕ) → HappensAt list task (happenings.Begin a) one
        → (a.task ≡ task) × access.IsInLimits a × (0 < a.size)
    its_fit task a one h =
        let it = in_all task (happenings.Begin a) one h in
        let has : Has (list.tasks task).whole.end.progress.did (happenings.Begin a) =
        subst (λ (d : List Happening). Has d (happenings.Begin a)) (sym it.1) (has_last (done_before h) (happenings.Begin a ∷ it.0) (happenings.Begin a) (inl refl)) in
        let fit = all_fit (task_setting run task) (length (task_of run task).registers) (task_of run task).body
        (reverse (records_of task records) ++ (list.tasks task).more) (list.tasks task).whole a has in
        (fit.0.task, fit.0.in_limits, fit.1)

    -- ---- letters

    told_more : (later earlier : List Record) → (more : History) × (history_by list (later ++ earlier) ≡ history_by list earlier ++ more)
    told_more [] earlier = ([], sym (append-nil (history_by list earlier)))
    told_more (latest ∷ later) earlier =
        let its : History = moments_of latest.task (did_next (list.tasks latest.task) (made_by latest.task (later ++ earlier))) in
        let it = told_more later earlier in
        (it.0 ++ its, ap (λ (h : History). h ++ its) it.1 ∙ append_assoc (history_by list earlier) it.0 its)

    -- the history that is told by then, and what begins there
    pub begins_after : (task : ℕ) (a : access.Access) (one : ℕ) (h : HappensAt list task (happenings.Begin a) one)
        → BeginsAfter (history_of list) a (history_by list h.earlier)
    begins_after task a one h =
        let more = told_more h.later (h.latest ∷ h.earlier) in
        let mine : h.latest.task ≡ a.task = h.mine ∙ sym (its_fit task a one h).0 in
        let next : moments_of h.latest.task (did_next (list.tasks h.latest.task) (made_by h.latest.task h.earlier))
        ≡ beginning a ∷ moments_of h.latest.task h.marks =
        ap (λ (d : List Happening). moments_of h.latest.task d) h.did
        ∙ ap (λ (t : ℕ). record { task = t; happening = happenings.Begin a } ∷ moments_of h.latest.task h.marks) mine in
        record {
          later = moments_of h.latest.task h.marks ++ more.0;
          split = ap (λ (r : List Record). history_by list r) h.split ∙ (more.1
              ∙ (ap (λ (m : History). (history_by list h.earlier ++ m) ++ more.0) next
              ∙ append_assoc (history_by list h.earlier) (beginning a ∷ moments_of h.latest.task h.marks) more.0));
        }

    pub letters_so : (task : ℕ) (s : Stamped) → IsSpan list task s → IsStampedSo list s → LettersAgree s
    letters_so task s span so = record {
      marked = λ is. so.0.1 (record {
        before = history_by list span.begins.earlier;
        begins = begins_after task s.access s.begin span.begins;
        counts = marked.declared is;
      });
      assertion = λ is yes.
          let counted = so.0.0 yes in
          assertion_counts run.rules.plain_writes_atomic s.access counted.before is counted.counts;
    }

    pub span_fits : (task : ℕ) (s : Stamped) → IsSpan list task s → IsStampedSo list s → unwrap_or s.access.mask 0 < 2 ^ 64 → AccessFits s
    span_fits task s span so mask =
        let fit = its_fit task s.access s.begin span.begins in
        let low : stamps_in span.ends.earlier ≤ stamps_in records =
        subst (λ (r : List Record). stamps_in span.ends.earlier ≤ stamps_in r) (sym span.ends.split)
        (let more = stamps_more span.ends.later (span.ends.latest ∷ span.ends.earlier) in
        omega (arith, more, one_more span.ends.latest span.ends.earlier)) in
        record {
          limits = fit.1;
          has_bytes = fit.2;
          mask = mask;
          letters = letters_so task s span so;
          ends_later = ends_later task s.access s.begin s.end span.begins span.ends;
          end_limit = omega (arith, stamp_is task (happenings.End s.access) s.end refl span.ends, low, few);
        }

    -- ---- two accesses

    -- the two began at different stamps, or are of different tasks
    module _ (task other : ℕ) (s t : Stamped) (below : task < length run.program.tasks) (span : IsSpan list task s) (others : IsSpan list other t)
        (apart : (task ≢ other) ⊎ (t.begin < s.begin)) where
      one_task : task ≡ other → s.begin ≢ t.begin
      one_task same equal = elim apart [ inl differ ↦ differ same | inr less ↦ omega (arith, less, equal) ]

      ticket_task : ticket_number t.access ≡ ticket_number s.access → task ≡ other
      ticket_task same =
          let a = its_fit task s.access s.begin span.begins in
          let b = its_fit other t.access t.begin others.begins in
          let la = a.1 in
          let lb = b.1 in
          let site_a = la.site in
          let rep_a = la.rep in
          let site_b = lb.site in
          let rep_b = lb.rep in
          let tasks : s.access.task ≡ t.access.task = omega (arith, same, site_a, rep_a, site_b, rep_b) in
          sym a.0 ∙ (tasks ∙ b.0)

      no_name : ticket_number t.access ≢ ticket_number s.access
      no_name same =
          let tasks : task ≡ other = ticket_task same in
          let its : HappensAt list task (happenings.Begin t.access) t.begin = subst (λ n. HappensAt list n (happenings.Begin t.access) t.begin) (sym tasks) others.begins in
          one_task tasks (same_begin task s.access t.access s.begin t.begin below span.begins its (sym same))

      pub are_other : AreOther s t
      are_other = record {
        stamps = record {
          begins = λ equal. one_task (same_turn task other (happenings.Begin s.access) (happenings.Begin t.access) s.begin t.begin refl refl span.begins others.begins equal).0 equal;
          ends = λ equal.
              let one = (same_turn task other (happenings.End s.access) (happenings.End t.access) s.end t.end refl refl span.ends others.ends equal).1 in
              let same : s.access ≡ t.access = cc in
              no_name (ap (λ (a : access.Access). ticket_number a) (sym same));
          begin_end = λ equal.
              let one = (same_turn task other (happenings.Begin s.access) (happenings.End t.access) s.begin t.end refl refl span.begins others.ends equal).1 in absurd cc;
          end_begin = λ equal.
              let one = (same_turn task other (happenings.End s.access) (happenings.Begin t.access) s.end t.begin refl refl span.ends others.begins equal).1 in absurd cc;
        };
        name = no_name;
      }

    -- ---- all accesses, one task after the other

    pub record IsSpanned (most : ℕ) (s : Stamped) : Type 0 where
      pub task : ℕ
      pub below : task < most
      pub span : IsSpan list task s
      pub so : IsStampedSo list s

    spanned_more : (n : ℕ) (s : Stamped) → IsSpanned n s → IsSpanned (suc n) s
    spanned_more n s it = record { task = it.task; below = let low : it.task < n = it.below in omega (arith, low); span = it.span; so = it.so }

    pub all_spanned : (n : ℕ) (accesses : List Stamped) → ByTask (AreAccessesOf list) n accesses → All (IsSpanned n) accesses
    all_spanned zero accesses h = subst (All (IsSpanned zero)) (sym h) (All-nil (IsSpanned zero))
    all_spanned (suc n) accesses h =
        subst (All (IsSpanned (suc n))) (sym h.2)
        (All-append (IsSpanned (suc n)) h.0 h.1 (All-weaker (IsSpanned n) (IsSpanned (suc n)) (spanned_more n) h.0 (all_spanned n h.0 h.3))
        (λ k d below. record { task = n; below = omega arith; span = h.4.spans k d below; so = h.4.decided k d below }))

    pub all_other : (n : ℕ) (accesses : List Stamped) → n ≤ length run.program.tasks → ByTask (AreAccessesOf list) n accesses
        → (earlier later : List Stamped) (s : Stamped) → accesses ≡ earlier ++ s ∷ later → All (AreOther s) earlier
    all_other zero accesses most h earlier later s is =
        let long : 0 ≡ length (earlier ++ s ∷ later) = ap (λ (l : List Stamped). length l) (sym h ∙ is) in
        absurd (omega (arith, long, length-append earlier (s ∷ later)))
    all_other (suc n) accesses most h earlier later s is = elim (split_of h.0 h.1 earlier later s (sym h.2 ∙ is)) [
      | inl here ↦ all_other n h.0 (omega (arith, most)) h.3 earlier here.0 s here.1
      | inr there ↦
          let its : IsSpan list n s = spans_at h.1 there.0 later s there.2 h.4.spans in
          let before : All (IsSpanned n) h.0 = all_spanned n h.0 h.3 in
          let first : All (AreOther s) h.0 = λ k d below.
          let one = before k d below in
          let low : one.task < n = one.below in
          are_other n one.task s (slice_index_or h.0 k d) (omega (arith, most)) its one.span (inl (λ same. omega (arith, low, same))) in
          let ordered : All (λ (t : Stamped). t.begin < s.begin) there.0 = pairs_before (λ (t u : Stamped). t.begin < u.begin) h.1 there.0 later s there.2 h.4.ordered in
          let second : All (AreOther s) there.0 = λ k d below.
          are_other n n s (slice_index_or there.0 k d) (omega (arith, most)) its (front_spans h.1 there.0 later s there.2 h.4.spans k d below) (inr (ordered k d below)) in
          subst (All (AreOther s)) (sym there.1) (All-append (AreOther s) h.0 there.0 first second)
    ]
      where
        spans_at : (own u l : List Stamped) (x : Stamped) → own ≡ u ++ x ∷ l → All (IsSpan list n) own → IsSpan list n x
        spans_at own u l x split all =
            let here : All (IsSpan list n) (u ++ x ∷ l) = subst (All (IsSpan list n)) split all in
            subst (IsSpan list n) (at_middle u l x x) (here (length u) x (omega (arith, length-append u (x ∷ l))))

        front_spans : (own u l : List Stamped) (x : Stamped) → own ≡ u ++ x ∷ l → All (IsSpan list n) own → All (IsSpan list n) u
        front_spans own u l x split all =
            let here : All (IsSpan list n) (u ++ x ∷ l) = subst (All (IsSpan list n)) split all in
            λ k d below. subst (IsSpan list n) (at_front u (x ∷ l) k d below) (here k d (omega (arith, below, length-append u (x ∷ l))))

    pub all_fitting : (accesses : List Stamped) → AreAccesses list accesses → All HasLowMask accesses → All AccessFits accesses
    all_fitting accesses are masks = λ k d below.
        let it = all_spanned (length run.program.tasks) accesses are k d below in
        span_fits it.task (slice_index_or accesses k d) it.span it.so (masks k d below)
