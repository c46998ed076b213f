-- At most one verdict falls on an access that is no scoped assertion.
use Rattle.std.proofs.Common.{◌≡◌, ◌<◌, ◌≤◌, ◌==◌, ◌&&◌, ◌+◌, ◌∙◌, ◌++◌, ◌∷◌, [], Bool, true, false, inl, inr, ℕ, suc, List, Some, ap, append_assoc, append-nil}
use Rattle.std.proofs.Common.{arith, count_by, if◌then◌else◌, length, map, nat_le, refl, reverse, slice_get, subst, sym}
use Rattle.std.specs.List.{filter}
use Rattle.std.specs.Prelude.{not}
use Rattle.std.proofs.lemmas.Bool.Decides.{eqb_tells, leb_tells}
use Rattle.std.proofs.lemmas.Bool.{eqb-true}
use Rattle.std.proofs.lemmas.List.{length-append, length-reverse}
use Rattle.std.proofs.lemmas.List.Sums.{sum_by-cons}
use Rattle.access_types.specs.Access as access
use Rattle.access_types.specs.Kind.{is_scoped}
use Rattle.access_types.specs.Ticket.{ticket_number}
use Rattle.access_types.specs.declared.history.Happening.{Happening}
use Rattle.access_types.specs.declared.history.Happening.TheVariants as happenings
use Rattle.litmus_semantics.specs.RunOfProgram.{setting_of}
use Rattle.litmus_semantics.specs.TextSites.{FitsTickets, block_sites}
use Rattle.litmus_semantics.proofs.TicketLemmas.{own_tickets}
use Rattle.executions.specs.execution.Run.{Run, task_of, task_setting}
use Rattle.executions.specs.execution.Execution.{Execution}
use Rattle.executions.specs.execution.Observed.{OutcomeAt, armed_by, came_next, made_by, outcome_at}
use Rattle.executions.proofs.execution.Histories.{front_of}
use Rattle.executions.proofs.execution.OwnLasts.{own_latest}
use Rattle.log_correctness.specs.Lists.{verdicts_by}
use Rattle.soundness.specs.Watches.{is_verdict}
use Rattle.setup_access.specs.Check.{Fallen}
use Rattle.slot_table.specs.Records.{records_of}
use Rattle.slot_table.specs.declared.records.Record.{Record}
use Rattle.log_correctness.proofs.OneVerdictAtMost.{begins_with, few_verdicts, is_verdict_of}
use Rattle.program_order.specs.TaskObserved.{fell_next, to_come}
use Rattle.program_order.proofs.MeaningLemmas.{whole_means}

-- ---- counts

pub counts : {X : Type 0} (p : X → Bool) (x : X) (xs : List X) → count_by p (x ∷ xs) ≡ (if p x then 1 else 0) + count_by p xs
counts p x xs = sum_by-cons (λ y. if p y then 1 else 0) x xs

pub counts_both : {X : Type 0} (p : X → Bool) (xs ys : List X) → count_by p (xs ++ ys) ≡ count_by p xs + count_by p ys
counts_both p [] ys = omega arith
counts_both p (x ∷ xs) ys = omega (arith, counts p x (xs ++ ys), counts p x xs, counts_both p xs ys)

and_true : (b : Bool) → ◌≡◌ {A = ℕ} (if b && true then 1 else 0) (if b then 1 else 0)
and_true true = refl
and_true false = refl

and_false : (b : Bool) → ◌≡◌ {A = ℕ} (if b && false then 1 else 0) 0
and_false true = refl
and_false false = refl

count_same : (p q : Fallen → Bool) → ((f : Fallen) → p f ≡ q f) → (outs : List Fallen) → count_by p outs ≡ count_by q outs
count_same p q same [] = refl
count_same p q same (f ∷ outs) =
    let w : ◌≡◌ {A = ℕ} (if p f then 1 else 0) (if q f then 1 else 0) = ap (λ (b : Bool). if b then 1 else 0) (same f) in
    omega (arith, counts p f outs, counts q f outs, w, count_same p q same outs)

-- what is counted of some that are kept and made anew
count_kept : (q p : OutcomeAt → Bool) (g : Fallen → OutcomeAt) (keep : Fallen → Bool) (outs : List Fallen)
    → count_by q (filter p (map g (filter keep outs))) ≡ count_by (λ f. (p (g f) && q (g f)) && keep f) outs
count_kept q p g keep [] = refl
count_kept q p g keep (f ∷ outs) =
    by (keep f) (p (g f)) refl refl (count_kept q p g keep outs)
  where
    by : (k b : Bool) → keep f ≡ k → p (g f) ≡ b → count_by q (filter p (map g (filter keep outs))) ≡ count_by (λ f. (p (g f) && q (g f)) && keep f) outs
        → count_by q (filter p (map g (filter keep (f ∷ outs)))) ≡ count_by (λ f. (p (g f) && q (g f)) && keep f) (f ∷ outs)
    by true true is_k is_b more =
        let right = counts (λ h. (p (g h) && q (g h)) && keep h) f outs in
        let left : count_by q (filter p (map g (filter keep (f ∷ outs)))) ≡ (if q (g f) then 1 else 0) + count_by q (filter p (map g (filter keep outs))) =
        rw (is_k, is_b) (counts q (g f) (filter p (map g (filter keep outs)))) in
        let weight : ◌≡◌ {A = ℕ} (if (p (g f) && q (g f)) && keep f then 1 else 0) (if q (g f) then 1 else 0) = rw (is_k, is_b) (and_true (q (g f))) in
        omega (arith, left, right, weight, more)
    by true false is_k is_b more =
        let right = counts (λ h. (p (g h) && q (g h)) && keep h) f outs in
        let left : count_by q (filter p (map g (filter keep (f ∷ outs)))) ≡ count_by q (filter p (map g (filter keep outs))) = rw (is_k, is_b) refl in
        let weight : ◌≡◌ {A = ℕ} (if (p (g f) && q (g f)) && keep f then 1 else 0) 0 = rw is_b refl in
        omega (arith, left, right, weight, more)
    by false b is_k is_b more =
        let right = counts (λ h. (p (g h) && q (g h)) && keep h) f outs in
        let left : count_by q (filter p (map g (filter keep (f ∷ outs)))) ≡ count_by q (filter p (map g (filter keep outs))) = rw is_k refl in
        let weight : ◌≡◌ {A = ℕ} (if (p (g f) && q (g f)) && keep f then 1 else 0) 0 = rw is_k (and_false (p (g f) && q (g f))) in
        omega (arith, left, right, weight, more)

-- what is at one place, and what is beyond it, is from there on
places : (a : Fallen → Bool) (at : ℕ) (outs : List Fallen)
    → count_by (λ f. a f && nat_le (suc at) (length f.later)) outs + count_by (λ f. a f && (length f.later == at)) outs
    ≤ count_by (λ f. a f && nat_le at (length f.later)) outs
places a at [] = omega arith
places a at (f ∷ outs) =
    omega (
      arith,
      counts (λ f. a f && nat_le (suc at) (length f.later)) f outs,
      counts (λ f. a f && (length f.later == at)) f outs,
      counts (λ f. a f && nat_le at (length f.later)) f outs,
      places a at outs,
      weigh (a f),
    )
  where
    weigh : (b : Bool) → (if b && nat_le (suc at) (length f.later) then 1 else 0) + (if b && (length f.later == at) then 1 else 0)
        ≤ (if b && nat_le at (length f.later) then 1 else 0)
    weigh false = omega arith
    weigh true = elim (leb_tells (suc at) (length f.later)) [
      | inl far ↦ elim (eqb_tells (length f.later) at) [
        | inl same ↦ let l : suc at ≤ length f.later = far.1 in let e : length f.later ≡ at = same.1 in absurd (omega arith)
        | inr other ↦ elim (leb_tells at (length f.later)) [
          | inl there ↦ rw (far.0, other.0, there.0) (omega arith)
          | inr not ↦ let l : suc at ≤ length f.later = far.1 in let n : length f.later < at = not.1 in absurd (omega arith)
        ]
      ]
      | inr near ↦ elim (eqb_tells (length f.later) at) [
        | inl same ↦ elim (leb_tells at (length f.later)) [
          | inl there ↦ rw (near.0, same.0, there.0) (omega arith)
          | inr not ↦ let e : length f.later ≡ at = same.1 in let n : length f.later < at = not.1 in absurd (omega arith)
        ]
        | inr other ↦ rw (near.0, other.0) (omega arith)
      ]
    ]

fewer : (a b : Fallen → Bool) (outs : List Fallen) → count_by (λ f. a f && b f) outs ≤ count_by a outs
fewer a b [] = omega arith
fewer a b (f ∷ outs) = omega (arith, counts (λ f. a f && b f) f outs, counts a f outs, fewer a b outs, weigh (a f) (b f))
  where
    weigh : (x y : Bool) → (if x && y then 1 else 0) ≤ (if x then 1 else 0)
    weigh true true = omega arith
    weigh true false = omega arith
    weigh false y = omega arith

-- at most one of those that differ
at_most_one : (p : Happening → Bool) (did : List Happening) → ((i j : ℕ) (x y : Happening) → i < j → slice_get did i ≡ Some x → slice_get did j ≡ Some y
    → p x ≡ true → p y ≡ true → ⊥) → count_by p did ≤ 1
at_most_one p [] apart = omega arith
at_most_one p (x ∷ did) apart = by (p x) refl (at_most_one p did (λ i j y z less a b. apart (suc i) (suc j) y z (omega (arith, less)) a b))
  where
    none : (d : List Happening) → ((j : ℕ) (y : Happening) → slice_get d j ≡ Some y → p y ≡ true → ⊥) → count_by p d ≡ 0
    none [] never = refl
    none (y ∷ d) never = by_y (p y) refl (none d (λ j z at. never (suc j) z at))
      where
        by_y : (b : Bool) → p y ≡ b → count_by p d ≡ 0 → count_by p (y ∷ d) ≡ 0
        by_y true is more = absurd (never 0 y refl is)
        by_y false is more = let w : ◌≡◌ {A = ℕ} (if p y then 1 else 0) 0 = rw is refl in omega (arith, counts p y d, w, more)

    by : (b : Bool) → p x ≡ b → count_by p did ≤ 1 → count_by p (x ∷ did) ≤ 1
    by true is more =
        let w : ◌≡◌ {A = ℕ} (if p x then 1 else 0) 1 = rw is refl in
        let rest : count_by p did ≡ 0 = none did (λ j y at yes. apart 0 (suc j) x y (omega arith) refl at is yes) in
        omega (arith, counts p x did, w, rest)
    by false is more = let w : ◌≡◌ {A = ℕ} (if p x then 1 else 0) 0 = rw is refl in omega (arith, counts p x did, w, more)

begins_is : (ticket : ℕ) (x : Happening) → begins_with ticket x ≡ true → (a : access.Access) × (x ≡ happenings.Begin a) × (ticket_number a ≡ ticket)
begins_is ticket (happenings.Begin a) is = (a, refl, eqb-true (ticket_number a) ticket is)
begins_is ticket (happenings.End a) is = absurd cc
begins_is ticket (happenings.Read bytes value) is = absurd cc
begins_is ticket (happenings.Write bytes value) is = absurd cc
begins_is ticket (happenings.Lock lock) is = absurd cc
begins_is ticket (happenings.Unlock lock) is = absurd cc
begins_is ticket (happenings.Mark m) is = absurd cc

-- the outcome is on an access of this ticket, which is no scoped assertion
abbrev pub is_of : ℕ → OutcomeAt → Bool
is_of ticket came = not (is_scoped came.access.kind) && ticket_number came.access == ticket

same_test : (v n t : Bool) → (v && (n && t)) ≡ ((v && n) && t)
same_test true n t = refl
same_test false n t = refl

module _ (run : Run) (records : List Record) (list : Execution run records) where
  -- verdicts of the task that fell by then are among all that fall in its text
  few_by : (ticket task : ℕ) (later earlier : List Record) → records ≡ later ++ earlier
      → count_by (is_of ticket) (verdicts_by list task earlier)
      ≤ count_by (λ f. is_verdict_of ticket f && nat_le (to_come (list.tasks task) (made_by task earlier)) (length f.later)) (list.tasks task).whole.end.outcomes
  few_by ticket task later [] is = omega arith
  few_by ticket task later (latest ∷ earlier) is = elim (eqb_tells latest.task task) [
    | inr others ↦
        let same : records_of task (latest ∷ earlier) ≡ records_of task earlier = rw others.0 refl in
        let before = few_by ticket task (later ++ latest ∷ []) earlier (is ∙ sym (append_assoc later (latest ∷ []) earlier)) in
        let made_same : made_by task (latest ∷ earlier) ≡ made_by task earlier = ap (λ (r : List Record). length r) same in
        let nothing : verdicts_by list task (latest ∷ earlier) ≡ verdicts_by list task earlier = rw others.0 (append-nil (verdicts_by list task earlier)) in
        subst (λ (n : ℕ). count_by (is_of ticket) (verdicts_by list task (latest ∷ earlier))
        ≤ count_by (λ f. is_verdict_of ticket f && nat_le (to_come (list.tasks task) n) (length f.later)) (list.tasks task).whole.end.outcomes) (sym made_same)
        (subst (λ (v : List OutcomeAt). count_by (is_of ticket) v
        ≤ count_by (λ f. is_verdict_of ticket f && nat_le (to_come (list.tasks task) (made_by task earlier)) (length f.later)) (list.tasks task).whole.end.outcomes) (sym nothing) before)
    | inl mine ↦
        let written = list.tasks task in
        let outs : List Fallen = written.whole.end.outcomes in
        let made : ℕ = made_by task earlier in
        let own : records_of task (latest ∷ earlier) ≡ latest ∷ records_of task earlier = own_latest task latest earlier mine.1 in
        let so_many : made_by task (latest ∷ earlier) ≡ made + 1 =
        let l : length (records_of task (latest ∷ earlier)) ≡ suc made = ap (λ (r : List Record). length r) own in omega (arith, l) in
        let front = front_of run records list task later (latest ∷ earlier) is in
        let whole : List Record = reverse (records_of task records) ++ written.more in
        let long : length whole ≡ length (records_of task (latest ∷ earlier)) + length front.0 =
        ap (λ (r : List Record). length r) front.1
        ∙ (length-append (reverse (records_of task (latest ∷ earlier))) front.0 ∙ ap (λ (n : ℕ). n + length front.0) (length-reverse (records_of task (latest ∷ earlier)))) in
        let left : to_come written made ≡ suc (to_come written (made + 1)) =
        let l : length (records_of task (latest ∷ earlier)) ≡ suc made = ap (λ (r : List Record). length r) own in omega (arith, long, l) in
        let at : ℕ = to_come written (made + 1) in
        let a : Fallen → Bool = λ f. is_verdict_of ticket f in
        let before : count_by (is_of ticket) (verdicts_by list task earlier) ≤ count_by (λ f. a f && nat_le (suc at) (length f.later)) outs =
        subst (λ (n : ℕ). count_by (is_of ticket) (verdicts_by list task earlier) ≤ count_by (λ f. a f && nat_le n (length f.later)) outs) left
        (few_by ticket task (later ++ latest ∷ []) earlier (is ∙ sym (append_assoc later (latest ∷ []) earlier))) in
        let new : List OutcomeAt = filter (λ came. is_verdict came.outcome) (map (outcome_at (length earlier) (armed_by latest.task (latest ∷ earlier))) (filter (λ f. length f.later == at) outs)) in
        let next : filter (λ came. is_verdict came.outcome) (came_next list latest earlier) ≡ new =
        ap (λ (t : ℕ). filter (λ (came : OutcomeAt). is_verdict came.outcome) (map (outcome_at (length earlier) (armed_by latest.task (latest ∷ earlier))) (fell_next (list.tasks t) (made_by t earlier)))) mine.1 in
        let fall : count_by (is_of ticket) new ≡ count_by (λ f. a f && (length f.later == at)) outs =
        count_kept (is_of ticket) (λ came. is_verdict came.outcome) (outcome_at (length earlier) (armed_by latest.task (latest ∷ earlier))) (λ f. length f.later == at) outs
        ∙ count_same (λ f. (is_verdict f.outcome && (not (is_scoped f.access.kind) && ticket_number f.access == ticket)) && (length f.later == at))
        (λ f. a f && (length f.later == at))
        (λ f. ap (λ (b : Bool). b && (length f.later == at)) (same_test (is_verdict f.outcome) (not (is_scoped f.access.kind)) (ticket_number f.access == ticket))) outs in
        let all : verdicts_by list task (latest ∷ earlier) ≡ verdicts_by list task earlier ++ new =
        rw mine.0 (ap (λ (v : List OutcomeAt). verdicts_by list task earlier ++ v) next) in
        let sum : count_by (is_of ticket) (verdicts_by list task (latest ∷ earlier)) ≡ count_by (is_of ticket) (verdicts_by list task earlier) + count_by (is_of ticket) new =
        ap (λ (v : List OutcomeAt). count_by (is_of ticket) v) all ∙ counts_both (is_of ticket) (verdicts_by list task earlier) new in
        subst (λ (n : ℕ). count_by (is_of ticket) (verdicts_by list task (latest ∷ earlier)) ≤ count_by (λ f. a f && nat_le (to_come written n) (length f.later)) outs) (sym so_many)
        (omega (arith, before, fall, sum, places a at outs))
  ]

  pub one_verdict : (ticket task : ℕ) (later earlier : List Record) → records ≡ later ++ earlier
      → FitsTickets (block_sites (setting_of run.program run.places task) (task_of run task).body)
      → count_by (is_of ticket) (verdicts_by list task earlier) ≤ 1
  one_verdict ticket task later earlier is room =
      let written = list.tasks task in
      let whole : List Record = reverse (records_of task records) ++ written.more in
      let means = whole_means (task_setting run task) (length (task_of run task).registers) (task_of run task).body whole written.whole in
      let begins : count_by (begins_with ticket) written.whole.end.progress.did ≤ 1 =
      at_most_one (begins_with ticket) written.whole.end.progress.did (λ i j x y less at_x at_y is_x is_y.
      let a = begins_is ticket x is_x in
      let b = begins_is ticket y is_y in
      own_tickets (setting_of run.program run.places task) (task_of run task).body _ written.whole.end.progress means room i j a.0 b.0 less
      (at_x ∙ ap (λ (z : Happening). Some z) a.1) (at_y ∙ ap (λ (z : Happening). Some z) b.1) (a.2 ∙ sym b.2)) in
      omega (
        arith,
        few_by ticket task later earlier is,
        fewer (is_verdict_of ticket) (λ f. nat_le (to_come written (made_by task earlier)) (length f.later)) written.whole.end.outcomes,
        few_verdicts (task_setting run task) ticket (length (task_of run task).registers) (task_of run task).body whole written.whole,
        begins,
      )
