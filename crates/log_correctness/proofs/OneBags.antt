-- The armings, the takings and the reports of a run whose tasks have ended tell of the same.
use Rattle.std.proofs.Common.{◌≡◌, ◌≢◌, ◌∙◌, ◌<◌, ◌+◌, ◌==◌, ◌&&◌, ◌++◌, ◌∷◌, if◌then◌else◌, [], ℕ, zero, suc, All, Bool, true, false, Contains}
use Rattle.std.proofs.Common.{List, None, Option, Some, ap, arith, cond, count_by, length, map, refl, slice_index_or, subst, sym}
use Rattle.std.specs.List.{AllPairs, cons_option, filter, filter_map, flat_map, sum_by}
use Rattle.std.specs.Option.{option_to_list}
use Rattle.std.proofs.lemmas.Bool.{eq-eqb, ne_eqb}
use Rattle.std.proofs.lemmas.List.Elements.{All-cons, All-contains, All-nil}
use Rattle.std.proofs.lemmas.List.Concat.{flat_map-cons}
use Rattle.std.proofs.lemmas.List.Sums.{length-filter, sum_by-append, sum_by-cons}
use Rattle.access_types.specs.Arms.{Arm}
use Rattle.access_types.specs.Takes.{Take}
use Rattle.access_types.specs.declared.arms.ArmOutcome.{ArmOutcome}
use Rattle.access_types.specs.declared.arms.ArmOutcome.TheVariants as became_as
use Rattle.access_types.specs.declared.arms.HitResult.{HitResult}
use Rattle.access_types.specs.declared.arms.HitResult.TheVariants as results
use Rattle.access_types.specs.declared.report.Report.{Report}
use Rattle.report_text.specs.Truth.{Pair, hit_in, hits_in, is_pair, is_take, origin_of, origins_in, pair_in, pairs_in, race_in, unknown_in}
use Rattle.log_correctness.proofs.Pairing.{all_paired}
use Rattle.log_correctness.proofs.Tallies.{Worth, all_add_up, by_task, counted_flat, own, same_sums, swapped, total}
use Rattle.executions.specs.execution.Answers.{AnswersTaking, IfAnswer, IsOfPair, is_answer}
use Rattle.executions.specs.execution.Reports.{reported, reports_of}
use Rattle.executions.specs.execution.Run.{Run, first_cells, locks_of}
use Rattle.executions.specs.execution.Execution.{Execution}
use Rattle.executions.specs.execution.Observed.{Armed, OutcomeAt, came_next, outcomes_by, outcomes_of}
use Rattle.executions.proofs.execution.OwnLasts.{still_told}
use Rattle.log_correctness.specs.Lists.{AreArmsOf, AreTakesOf, Became, ByTask, IsHit, take_of, takes_by, verdicts_by}
use Rattle.log_correctness.proofs.Naming.{last_name}
use Rattle.log_correctness.proofs.Settling.{HandSays, Known, Match, Suits}
use Rattle.log_correctness.proofs.Sums.{counted, counted_both}
use Rattle.soundness.specs.Takings.{HasOneAnswer, answers, is_armed}
use Rattle.soundness.specs.Watches.{IfVerdict, is_verdict}
use Rattle.setup_access.specs.declared.outcome.Outcome.{Outcome}
use Rattle.setup_access.specs.declared.outcome.Outcome.TheVariants as outcomes
use Rattle.slot.specs.Pair.{Halves}
use Rattle.slot_table.specs.Armings.{last_arming_number, number_made}
use Rattle.slot_table.specs.Discipline.{AllAreFinished, heard}
use Rattle.slot_table.specs.Meetings.{Meeting, finders_told, numbers_met, told_by, told_to}
use Rattle.slot_table.specs.Records.{records_of}
use Rattle.slot_table.specs.declared.discipline.InHand.{InHand}
use Rattle.slot_table.specs.declared.records.Record.{Record}
use Rattle.slot_table.specs.declared.step.Step.{Step}
use Rattle.slot_table.specs.declared.step.Step.TheVariants as steps
use Rattle.slot_table.proofs.Lists.{Keeps}
use Rattle.slot_table.proofs.Moves.{some_same}
use Rattle.task_log.specs.Noted.{dropped}
use Rattle.value_filter.specs.declared.verdict.Reason.{Reason}
use Rattle.value_filter.specs.declared.verdict.Reason.TheVariants.{Encoding, MaskedBits, SameValue}

-- this holds of each
abbrev Each : {X : Type 0} → (X → Type 0) → List X → Type 0
Each P [] = Unit {0}
Each P (x ∷ xs) = P x × Each P xs

each_both : {X : Type 0} (P : X → Type 0) (xs ys : List X) → Each P xs → Each P ys → Each P (xs ++ ys)
each_both P [] ys p q = q
each_both P (x ∷ xs) ys p q = (p.0, each_both P xs ys p.1 q)

each_left : {X : Type 0} (P : X → Type 0) (p : X → Bool) (xs : List X) → Each P xs → Each P (filter p xs)
each_left P p [] h = h
each_left P p (x ∷ xs) h = by_test (p x) refl (each_left P p xs h.1)
  where
    by_test : (b : Bool) → p x ≡ b → Each P (filter p xs) → Each P (filter p (x ∷ xs))
    by_test true is rest = subst (λ (c : Bool). Each P (cond c (x ∷ filter p xs) (filter p xs))) (sym is) (h.0, rest)
    by_test false is rest = subst (λ (c : Bool). Each P (cond c (x ∷ filter p xs) (filter p xs))) (sym is) rest

each_of : {X : Type 0} (P : X → Type 0) (xs : List X) → ((x : X) → Contains xs x → P x) → Each P xs
each_of P [] h = tt
each_of P (x ∷ xs) h = (
  h x (0, omega arith, refl),
  each_of P xs (λ y there. h y (suc there.0, let below : there.0 < length xs = there.1 in omega (arith, below), there.2)),
)

pub all_of : {X : Type 0} (P : X → Type 0) (xs : List X) → ((x : X) → Contains xs x → P x) → All P xs
all_of P [] h = All-nil P
all_of P (x ∷ xs) h =
    All-cons P x xs (h x (0, omega arith, refl))
    (all_of P xs (λ y there. h y (suc there.0, let below : there.0 < length xs = there.1 in omega (arith, below), there.2)))

-- a number that stands nowhere is nobody's
apart_from : (n : ℕ) (xs : List Meeting) (met : Meeting)
    → ((j d : ℕ) → j < length (numbers_met xs) → n ≢ slice_index_or (numbers_met xs) j d)
    → Contains xs met → met.number ≢ n
apart_from n [] met apart there = let none : there.0 < 0 = there.1 in absurd (omega (arith, none))
apart_from n (x ∷ xs) met apart (zero, below, is) =
    λ same. apart 0 0 (omega arith) (sym same ∙ sym (ap (λ (m : Meeting). m.number) is))
apart_from n (x ∷ xs) met apart (suc k, below, is) =
    apart_from n xs met (λ j d less. apart (suc j) d (omega (arith, less))) (k, let it : suc k < suc (length xs) = below in omega (arith, it), is)

none_else : (n : ℕ) (h : Meeting → ℕ) → ((met : Meeting) → met.number ≢ n → h met ≡ 0) → (xs : List Meeting)
    → ((j d : ℕ) → j < length (numbers_met xs) → n ≢ slice_index_or (numbers_met xs) j d) → sum_by h xs ≡ 0
none_else n h none [] apart = refl
none_else n h none (x ∷ xs) apart =
    let rest = none_else n h none xs (λ j d less. apart (suc j) d (omega (arith, less))) in
    let one = sum_by-cons h x xs in
    let own = none x (λ same. apart 0 0 (omega arith) (sym same)) in omega (arith, rest, one, own)

-- where all numbers differ, a sum over what is of one number has one part
one_only : (h : Meeting → ℕ) (xs : List Meeting) (met : Meeting) → AllPairs (λ a b. a ≢ b) (numbers_met xs) → Contains xs met
    → ((other : Meeting) → other.number ≢ met.number → h other ≡ 0) → sum_by h xs ≡ h met
one_only h [] met differ there none = let no : there.0 < 0 = there.1 in absurd (omega (arith, no))
one_only h (x ∷ xs) met differ (zero, below, is) none =
    let number : x.number ≡ met.number = ap (λ (m : Meeting). m.number) is in
    let rest = none_else met.number h none xs
    (λ j d less. subst (λ (k : ℕ). k ≢ slice_index_or (numbers_met xs) j d) number (differ 0 (suc j) d (omega arith) (omega (arith, less)))) in
    let one = sum_by-cons h x xs in
    let same : h x ≡ h met = ap h is in omega (arith, rest, one, same)
one_only h (x ∷ xs) met differ (suc k, below, is) none =
    let there : Contains xs met = (k, let it : suc k < suc (length xs) = below in omega (arith, it), is) in
    let rest = one_only h xs met (λ i j d less under. differ (suc i) (suc j) d (omega (arith, less)) (omega (arith, under))) there none in
    let one = sum_by-cons h x xs in
    let apart : met.number ≢ x.number = apart_from x.number xs met (λ j d less. differ 0 (suc j) d (omega arith) (omega (arith, less))) there in
    let own = none x (λ same. apart (sym same)) in omega (arith, rest, one, own)

one_met : (xs : List Meeting) (one other : Meeting) → AllPairs (λ a b. a ≢ b) (numbers_met xs) → Contains xs one → Contains xs other
    → one.number ≡ other.number → one ≡ other
one_met [] one other differ p q same = let no : p.0 < 0 = p.1 in absurd (omega (arith, no))
one_met (x ∷ xs) one other differ (zero, below, is) (zero, under, its) same = sym is ∙ its
one_met (x ∷ xs) one other differ (zero, below, is) (suc k, under, its) same =
    let there : Contains xs other = (k, let it : suc k < suc (length xs) = under in omega (arith, it), its) in
    absurd (apart_from x.number xs other (λ j d less. differ 0 (suc j) d (omega arith) (omega (arith, less))) there
    (sym same ∙ sym (ap (λ (m : Meeting). m.number) is)))
one_met (x ∷ xs) one other differ (suc k, below, is) (zero, under, its) same =
    let there : Contains xs one = (k, let it : suc k < suc (length xs) = below in omega (arith, it), is) in
    absurd (apart_from x.number xs one (λ j d less. differ 0 (suc j) d (omega arith) (omega (arith, less))) there
    (same ∙ sym (ap (λ (m : Meeting). m.number) its)))
one_met (x ∷ xs) one other differ (suc k, below, is) (suc l, under, its) same =
    one_met xs one other (λ i j d less more. differ (suc i) (suc j) d (omega (arith, less)) (omega (arith, more)))
    (k, let it : suc k < suc (length xs) = below in omega (arith, it), is) (l, let it : suc l < suc (length xs) = under in omega (arith, it), its) same

-- sums that leave out what comes to nothing
left_sum : (w : OutcomeAt → ℕ) (p : OutcomeAt → Bool) → ((c : OutcomeAt) → p c ≡ false → w c ≡ 0) → (came : List OutcomeAt)
    → sum_by w (filter p came) ≡ sum_by w came
left_sum w p none [] = refl
left_sum w p none (c ∷ came) = by_test (p c) refl (left_sum w p none came)
  where
    by_test : (b : Bool) → p c ≡ b → sum_by w (filter p came) ≡ sum_by w came → sum_by w (filter p (c ∷ came)) ≡ sum_by w (c ∷ came)
    by_test true is rest =
        let its : sum_by w (filter p (c ∷ came)) ≡ sum_by w (c ∷ filter p came) =
        ap (λ (b : Bool). sum_by w (cond b (c ∷ filter p came) (filter p came))) is in
        let one = sum_by-cons w c (filter p came) in
        let other = sum_by-cons w c came in omega (arith, rest, its, one, other)
    by_test false is rest =
        let its : sum_by w (filter p (c ∷ came)) ≡ sum_by w (filter p came) =
        ap (λ (b : Bool). sum_by w (cond b (c ∷ filter p came) (filter p came))) is in
        let other = sum_by-cons w c came in
        let zero_so = none c is in omega (arith, rest, its, other, zero_so)

zero_sum : {X : Type 0} (f : X → ℕ) → ((x : X) → f x ≡ 0) → (xs : List X) → sum_by f xs ≡ 0
zero_sum f none [] = refl
zero_sum f none (x ∷ xs) =
    let rest = zero_sum f none xs in let one = sum_by-cons f x xs in let own_so = none x in omega (arith, rest, one, own_so)

module _ (run : Run) (all : List Record) (list : Execution run all) where
  -- what the outcomes come to, task by task
  module _ (w : OutcomeAt → ℕ) (none : (c : OutcomeAt) → is_verdict c.outcome ≡ false → w c ≡ 0) where
    abbrev worth : Worth
    worth latest earlier = sum_by w (came_next list latest earlier)

    total_is : (records : List Record) → total worth records ≡ sum_by w (outcomes_by list records)
    total_is [] = refl
    total_is (latest ∷ earlier) =
        let rest = total_is earlier in
        let both = sum_by-append w (outcomes_by list earlier) (came_next list latest earlier) in omega (arith, rest, both)

    own_is : (task : ℕ) (records : List Record) → sum_by w (verdicts_by list task records) ≡ own worth task records
    own_is task [] = refl
    own_is task (latest ∷ earlier) = by_task_is (latest.task == task) refl (own_is task earlier)
      where
        some : Bool → List OutcomeAt
        some b = if b then filter (λ came. is_verdict came.outcome) (came_next list latest earlier) else []

        by_task_is : (b : Bool) → (latest.task == task) ≡ b → sum_by w (verdicts_by list task earlier) ≡ own worth task earlier
            → sum_by w (verdicts_by list task (latest ∷ earlier)) ≡ own worth task (latest ∷ earlier)
        by_task_is true is rest =
            let verdicts : sum_by w (verdicts_by list task (latest ∷ earlier))
            ≡ sum_by w (verdicts_by list task earlier ++ filter (λ (came : OutcomeAt). is_verdict came.outcome) (came_next list latest earlier)) =
            ap (λ (b : Bool). sum_by w (verdicts_by list task earlier ++ (if b then filter (λ (came : OutcomeAt). is_verdict came.outcome) (came_next list latest earlier) else []))) is in
            let parts = sum_by-append w (verdicts_by list task earlier) (filter (λ (came : OutcomeAt). is_verdict came.outcome) (came_next list latest earlier)) in
            let left = left_sum w (λ (came : OutcomeAt). is_verdict came.outcome) none (came_next list latest earlier) in
            let its : own worth task (latest ∷ earlier) ≡ worth latest earlier + own worth task earlier =
            ap (λ (b : Bool). cond {A = ℕ} b (worth latest earlier) 0 + own worth task earlier) is in omega (arith, rest, verdicts, parts, left, its)
        by_task_is false is rest =
            let verdicts : sum_by w (verdicts_by list task (latest ∷ earlier)) ≡ sum_by w (verdicts_by list task earlier ++ []) =
            ap (λ (b : Bool). sum_by w (verdicts_by list task earlier ++ (if b then filter (λ (came : OutcomeAt). is_verdict came.outcome) (came_next list latest earlier) else []))) is in
            let parts = sum_by-append w (verdicts_by list task earlier) [] in
            let nothing : sum_by w [] ≡ 0 = refl in
            let its : own worth task (latest ∷ earlier) ≡ 0 + own worth task earlier =
            ap (λ (b : Bool). cond {A = ℕ} b (worth latest earlier) 0 + own worth task earlier) is in omega (arith, rest, verdicts, parts, nothing, its)

  each_verdict : (P : OutcomeAt → Type 0) (task : ℕ) (records : List Record) → Each P (outcomes_by list records)
      → Each P (verdicts_by list task records)
  each_verdict P task [] h = tt
  each_verdict P task (latest ∷ earlier) h = by_test (each_verdict P task earlier parts.0) (latest.task == task)
    where
      first_of : (xs ys : List OutcomeAt) → Each P (xs ++ ys) → Each P xs × Each P ys
      first_of [] ys p = (tt, p)
      first_of (x ∷ xs) ys p = let it = first_of xs ys p.1 in ((p.0, it.0), it.1)

      parts : Each P (outcomes_by list earlier) × Each P (came_next list latest earlier)
      parts = first_of (outcomes_by list earlier) (came_next list latest earlier) h

      by_test : Each P (verdicts_by list task earlier) → (b : Bool)
          → Each P (verdicts_by list task earlier ++ (if b then filter (λ came. is_verdict came.outcome) (came_next list latest earlier) else []))
      by_test rest true =
          each_both P (verdicts_by list task earlier) (filter (λ (came : OutcomeAt). is_verdict came.outcome) (came_next list latest earlier))
          rest (each_left P (λ (came : OutcomeAt). is_verdict came.outcome) (came_next list latest earlier) parts.1)
      by_test rest false = each_both P (verdicts_by list task earlier) [] rest tt

  -- armings, each with its verdict
  matched_sum : (P : OutcomeAt → Type 0) (u : Arm → ℕ) (w : OutcomeAt → ℕ)
      → ((arm : Arm) (verdict : OutcomeAt) → Suits all arm verdict → P verdict → u arm ≡ w verdict)
      → (arms : List Arm) (verdicts : List OutcomeAt) → Match all arms verdicts → Each P verdicts → sum_by u arms ≡ sum_by w verdicts
  matched_sum P u w same [] [] match_so each = refl
  matched_sum P u w same [] (verdict ∷ verdicts) match_so each = absurd match_so
  matched_sum P u w same (arm ∷ arms) [] match_so each = absurd match_so
  matched_sum P u w same (arm ∷ arms) (verdict ∷ verdicts) match_so each =
      let rest = matched_sum P u w same arms verdicts match_so.1 each.1 in
      let one = sum_by-cons u arm arms in
      let other = sum_by-cons w verdict verdicts in
      let now = same arm verdict match_so.0 each.0 in omega (arith, rest, one, other, now)

  module _ (rules : Keeps run.rules.slots (locks_of run) (first_cells run) all) (over : AllAreFinished all)
      (watches : All (IfVerdict list) (outcomes_of list)) (answered : All (IfAnswer list) (outcomes_of list)) where
    match_of : (task : ℕ) (arms : List Arm) → AreArmsOf list task arms → Match all arms (verdicts_by list task all)
    match_of task arms are =
        let paired = all_paired run all list rules watches task [] all refl arms are in
        let known : Known = record {
          verdicts = verdicts_by list task all;
          arms = arms;
          name = last_name (records_of task all);
          made = λ index. number_made task index all;
          kept = paired.kept;
        } in
        subst (λ (h : Option InHand). HandSays all h (λ index. heard index (records_of task all)) known) (over task) paired.says

    each_answer : Each (IfAnswer list) (outcomes_of list)
    each_answer =
        each_of (IfAnswer list) (outcomes_of list) (λ came there. All-contains (IfAnswer list) (outcomes_of list) came answered there)

    abbrev Same : (Arm → ℕ) → (OutcomeAt → ℕ) → Type 0
    Same u w = (arm : Arm) (verdict : OutcomeAt) → Suits all arm verdict → IfAnswer list verdict → u arm ≡ w verdict

    abbrev Others : (OutcomeAt → ℕ) → Type 0
    Others w = (c : OutcomeAt) → is_verdict c.outcome ≡ false → w c ≡ 0

    arms_by_task : (u : Arm → ℕ) (w : OutcomeAt → ℕ) → Same u w → (none : Others w) → (tasks : ℕ) (arms : List Arm)
        → ByTask (AreArmsOf list) tasks arms
        → sum_by u arms ≡ by_task run all list (worth w none) (λ task. sum_by w (verdicts_by list task all)) tasks
    arms_by_task u w same none zero arms are = ap (λ (l : List Arm). sum_by u l) are
    arms_by_task u w same none (suc task) arms are =
        let rest = arms_by_task u w same none task are.0 are.3 in
        let split : sum_by u arms ≡ sum_by u (are.0 ++ are.1) = ap (λ (l : List Arm). sum_by u l) are.2 in
        let both = sum_by-append u are.0 are.1 in
        let own_so = matched_sum (IfAnswer list) u w same are.1 (verdicts_by list task all) (match_of task are.1 are.4)
        (each_verdict (IfAnswer list) task all each_answer) in omega (arith, rest, split, both, own_so)

    arms_sum : (u : Arm → ℕ) (w : OutcomeAt → ℕ) → Same u w → Others w → (arms : List Arm)
        → ByTask (AreArmsOf list) (length run.program.tasks) arms
        → sum_by u arms ≡ sum_by w (outcomes_of list)
    arms_sum u w same none arms are =
        arms_by_task u w same none (length run.program.tasks) arms are
        ∙ (all_add_up run all list (worth w none) (λ task. sum_by w (verdicts_by list task all)) (λ task there. own_is w none task all) ∙ total_is w none all)

    -- reports, by their outcomes
    reported_sum : {X : Type 0} (p : X → Bool) (f : Report → List X) (came : List OutcomeAt)
        → count_by p (flat_map f (filter_map (λ (c : OutcomeAt). reported c.access c.outcome) came))
        ≡ sum_by (λ (c : OutcomeAt). count_by p (flat_map f (option_to_list (reported c.access c.outcome)))) came
    reported_sum p f [] = refl
    reported_sum {X = X} p f (c ∷ came) =
        let rest = reported_sum p f came in
        let now = with_one (reported c.access c.outcome) (filter_map (λ (d : OutcomeAt). reported d.access d.outcome) came) in
        let one = sum_by-cons (λ (d : OutcomeAt). count_by p (flat_map f (option_to_list (reported d.access d.outcome)))) c came in omega (arith, rest, now, one)
      where
        with_one : (o : Option Report) (l : List Report)
            → count_by p (flat_map f (cons_option o l)) ≡ count_by p (flat_map f (option_to_list o)) + count_by p (flat_map f l)
        with_one None l = omega arith
        with_one (Some r) l =
            let all_so : count_by p (flat_map f (r ∷ l)) ≡ count_by p (f r ++ flat_map f l) = ap (λ (k : List X). count_by p k) (flat_map-cons f r l) in
            let both = counted_both p (f r) (flat_map f l) in
            let one : count_by p (flat_map f (r ∷ [])) ≡ count_by p (f r ++ flat_map f []) = ap (λ (k : List X). count_by p k) (flat_map-cons f r []) in
            let alone = counted_both p (f r) (flat_map f []) in
            let nothing : count_by p (flat_map f []) ≡ 0 = refl in omega (arith, all_so, both, one, alone, nothing)

    -- the pair that an answer is of is that of its arming's setter and finder
    module _ (differ : AllPairs (λ a b. a ≢ b) (numbers_met (finders_told all))) where
      record IsPairOf (arm : Arm) (finder : ℕ) (pair : Halves) : Type 0 where
        setter : arm.setter ≡ pair.setter
        hit : finder ≡ pair.finder

      pair_of : (arm : Arm) (verdict : OutcomeAt) → (suits : Suits all arm verdict) → (answer : AnswersTaking list verdict) → (finder : ℕ)
          → Contains (finders_told all) (record { index = arm.index; number = suits.number; setter = arm.setter; finder = finder }) → IsPairOf arm finder answer.pair
      pair_of arm verdict suits answer finder told =
          let its : Meeting = record { index = answer.index; number = answer.number; setter = answer.pair.setter; finder = answer.pair.finder } in
          let there : Contains (finders_told all) its =
          subst (λ (r : List Record). Contains (finders_told r) its) (sym answer.split) (still_told answer.later answer.by_then its answer.told) in
          let armed : ◌≡◌ {A = Option Armed} (Some (record { index = arm.index; number = suits.number })) (Some (record { index = answer.index; number = answer.number })) =
          sym suits.on ∙ answer.armed in
          let number : suits.number ≡ answer.number = ap (λ (a : Armed). a.number) (some_same armed) in
          let same = one_met (finders_told all) (record { index = arm.index; number = suits.number; setter = arm.setter; finder = finder }) its differ told there number in
          record { setter = ap (λ (m : Meeting). m.setter) same; hit = ap (λ (m : Meeting). m.finder) same }

      -- reported pairs
      abbrev pairs_at : Pair → Arm → ℕ
      pairs_at x arm = count_by (is_pair x) (pair_in arm.setter arm.outcome)

      abbrev races_at : Pair → OutcomeAt → ℕ
      races_at x c = count_by (is_pair x) (flat_map race_in (option_to_list (reported c.access c.outcome)))

      no_pair : (x : Pair) (setter finder : ℕ) (reason : Reason)
          → count_by (is_pair x) (pair_in setter (became_as.Hit finder (dropped reason))) ≡ 0
      no_pair x setter finder Encoding = refl
      no_pair x setter finder SameValue = refl
      no_pair x setter finder MaskedBits = refl

      pairs_same : (x : Pair) → Same (pairs_at x) (races_at x)
      pairs_same x arm verdict suits answers_so = by_outcome verdict.outcome refl suits.became
        where
          by_outcome : (o : Outcome) → verdict.outcome ≡ o → Became all arm.index suits.number arm.setter o arm.outcome
              → pairs_at x arm ≡ races_at x verdict
          by_outcome outcomes.Quiet is became =
              ap (λ (a : ArmOutcome). count_by (is_pair x) (pair_in arm.setter a)) became
              ∙ sym (ap (λ (o : Outcome). count_by (is_pair x) (flat_map race_in (option_to_list (reported verdict.access o)))) is)
          by_outcome (outcomes.Unknown old new) is became =
              ap (λ (a : ArmOutcome). count_by (is_pair x) (pair_in arm.setter a)) became
              ∙ sym (ap (λ (o : Outcome). count_by (is_pair x) (flat_map race_in (option_to_list (reported verdict.access o)))) is)
          by_outcome (outcomes.Dropped reason) is became =
              ap (λ (a : ArmOutcome). count_by (is_pair x) (pair_in arm.setter a)) became.is
              ∙ (no_pair x arm.setter became.finder reason
              ∙ sym (ap (λ (o : Outcome). count_by (is_pair x) (flat_map race_in (option_to_list (reported verdict.access o)))) is))
          by_outcome (outcomes.Report pair seen) is became =
              let answer : AnswersTaking list verdict = answers_so (ap is_answer is) in
              let both = pair_of arm verdict suits answer became.finder became.told in
              let own_pair : pair ≡ answer.pair = subst (λ (o : Outcome). IsOfPair answer.pair o) is answer.of_pair in
              let setter : arm.setter ≡ pair.setter = both.setter ∙ sym (ap (λ (p : Halves). p.setter) own_pair) in
              let finder : became.finder ≡ pair.finder = both.hit ∙ sym (ap (λ (p : Halves). p.finder) own_pair) in
              ap (λ (a : ArmOutcome). count_by (is_pair x) (pair_in arm.setter a)) became.is
              ∙ (ap (λ (n : ℕ). count_by (is_pair x) ((n, became.finder) ∷ [])) setter
              ∙ (ap (λ (n : ℕ). count_by (is_pair x) ((pair.setter, n) ∷ [])) finder
              ∙ sym (ap (λ (o : Outcome). count_by (is_pair x) (flat_map race_in (option_to_list (reported verdict.access o)))) is)))
          by_outcome outcomes.Nothing is became = absurd became
          by_outcome outcomes.Lost is became = absurd became
          by_outcome (outcomes.Told pair) is became = absurd became
          by_outcome outcomes.Capacity is became = absurd became
          by_outcome outcomes.Unencodable is became = absurd became

      unreported : (o : Outcome) (c : OutcomeAt) → c.outcome ≡ o → is_verdict o ≡ false → reported c.access c.outcome ≡ None
      unreported outcomes.Quiet c is none = absurd (cc)
      unreported (outcomes.Unknown old new) c is none = absurd (cc)
      unreported (outcomes.Report pair seen) c is none = absurd (cc)
      unreported (outcomes.Dropped reason) c is none = absurd (cc)
      unreported outcomes.Nothing c is none = ap (reported c.access) is
      unreported outcomes.Lost c is none = ap (reported c.access) is
      unreported (outcomes.Told pair) c is none = ap (reported c.access) is
      unreported outcomes.Capacity c is none = ap (reported c.access) is
      unreported outcomes.Unencodable c is none = ap (reported c.access) is

      pub races : (arms : List Arm) → ByTask (AreArmsOf list) (length run.program.tasks) arms → (x : Pair)
          → count_by (is_pair x) (pairs_in arms) ≡ count_by (is_pair x) (flat_map race_in (reports_of list))
      races arms are x =
          counted_flat (is_pair x) (λ (a : Arm). pair_in a.setter a.outcome) arms
          ∙ (arms_sum (pairs_at x) (races_at x) (pairs_same x)
          (λ c none. ap (λ (o : Option Report). count_by (is_pair x) (flat_map race_in (option_to_list o))) (unreported c.outcome c refl none)) arms are
          ∙ sym (reported_sum (is_pair x) race_in (outcomes_of list)))

      -- origins
      abbrev origins_at : ℕ → Arm → ℕ
      origins_at x arm = count_by (λ (m : ℕ). x == m) (origin_of arm.setter arm.outcome)

      abbrev unknowns_at : ℕ → OutcomeAt → ℕ
      unknowns_at x c = count_by (λ (m : ℕ). x == m) (flat_map unknown_in (option_to_list (reported c.access c.outcome)))

      origins_same : (x : ℕ) → Same (origins_at x) (unknowns_at x)
      origins_same x arm verdict suits answers_so = by_outcome verdict.outcome refl suits.became
        where
          by_outcome : (o : Outcome) → verdict.outcome ≡ o → Became all arm.index suits.number arm.setter o arm.outcome
              → origins_at x arm ≡ unknowns_at x verdict
          by_outcome outcomes.Quiet is became =
              ap (λ (a : ArmOutcome). count_by (λ (m : ℕ). x == m) (origin_of arm.setter a)) became
              ∙ sym (ap (λ (o : Outcome). count_by (λ (m : ℕ). x == m) (flat_map unknown_in (option_to_list (reported verdict.access o)))) is)
          by_outcome (outcomes.Unknown old new) is became =
              ap (λ (a : ArmOutcome). count_by (λ (m : ℕ). x == m) (origin_of arm.setter a)) became
              ∙ (ap (λ (n : ℕ). count_by (λ (m : ℕ). x == m) (n ∷ [])) suits.setter
              ∙ sym (ap (λ (o : Outcome). count_by (λ (m : ℕ). x == m) (flat_map unknown_in (option_to_list (reported verdict.access o)))) is))
          by_outcome (outcomes.Dropped reason) is became =
              ap (λ (a : ArmOutcome). count_by (λ (m : ℕ). x == m) (origin_of arm.setter a)) became.is
              ∙ sym (ap (λ (o : Outcome). count_by (λ (m : ℕ). x == m) (flat_map unknown_in (option_to_list (reported verdict.access o)))) is)
          by_outcome (outcomes.Report pair seen) is became =
              ap (λ (a : ArmOutcome). count_by (λ (m : ℕ). x == m) (origin_of arm.setter a)) became.is
              ∙ sym (ap (λ (o : Outcome). count_by (λ (m : ℕ). x == m) (flat_map unknown_in (option_to_list (reported verdict.access o)))) is)
          by_outcome outcomes.Nothing is became = absurd became
          by_outcome outcomes.Lost is became = absurd became
          by_outcome (outcomes.Told pair) is became = absurd became
          by_outcome outcomes.Capacity is became = absurd became
          by_outcome outcomes.Unencodable is became = absurd became

      pub origins : (arms : List Arm) → ByTask (AreArmsOf list) (length run.program.tasks) arms → (x : ℕ)
          → count_by (λ (m : ℕ). x == m) (origins_in arms) ≡ count_by (λ (m : ℕ). x == m) (flat_map unknown_in (reports_of list))
      origins arms are x =
          counted_flat (λ (m : ℕ). x == m) (λ (a : Arm). origin_of a.setter a.outcome) arms
          ∙ (arms_sum (origins_at x) (unknowns_at x) (origins_same x)
          (λ c none. ap (λ (o : Option Report). count_by (λ (m : ℕ). x == m) (flat_map unknown_in (option_to_list o))) (unreported c.outcome c refl none)) arms are
          ∙ sym (reported_sum (λ (m : ℕ). x == m) unknown_in (outcomes_of list)))

      -- takings
      abbrev hits_at : Take → Arm → ℕ
      hits_at x arm = count_by (is_take x) (hit_in arm.setter arm.index arm.outcome)

      abbrev meets : Take → OutcomeAt → Meeting → ℕ
      meets x c met = cond {A = ℕ} (answers met.index met.number c && is_take x (take_of met)) 1 0

      abbrev takes_at : Take → OutcomeAt → ℕ
      takes_at x c = sum_by (λ (met : Meeting). meets x c met) (finders_told all)

      no_answer : (x : Take) (c : OutcomeAt) → is_answer c.outcome ≡ false → takes_at x c ≡ 0
      no_answer x c none =
          zero_sum (λ (met : Meeting). meets x c met)
          (λ met. ap (λ (b : Bool). cond {A = ℕ} ((b && is_armed met.index met.number c.arming) && is_take x (take_of met)) 1 0) none) (finders_told all)

      unanswered : (o : Outcome) → is_verdict o ≡ false → is_answer o ≡ false
      unanswered outcomes.Quiet none = refl
      unanswered (outcomes.Unknown old new) none = refl
      unanswered (outcomes.Report pair seen) none = absurd (cc)
      unanswered (outcomes.Dropped reason) none = absurd (cc)
      unanswered outcomes.Nothing none = refl
      unanswered outcomes.Lost none = refl
      unanswered (outcomes.Told pair) none = refl
      unanswered outcomes.Capacity none = refl
      unanswered outcomes.Unencodable none = refl

      and_false : (b : Bool) → (b && false) ≡ false
      and_false true = refl
      and_false false = refl

      -- the one taking that an answer is to
      hit_same : (x : Take) (arm : Arm) (verdict : OutcomeAt) (suits : Suits all arm verdict) (result : HitResult)
          → is_answer verdict.outcome ≡ true
          → IsHit all arm.index suits.number arm.setter result arm.outcome → hits_at x arm ≡ takes_at x verdict
      hit_same x arm verdict suits result is hit =
          let met : Meeting = record { index = arm.index; number = suits.number; setter = arm.setter; finder = hit.finder } in
          let one = one_only (λ (m : Meeting). meets x verdict m) (finders_told all) met differ hit.told (λ m apart.
          let no : (suits.number == m.number) ≡ false = ne_eqb suits.number m.number (λ same. apart (sym same)) in
          let unarmed : is_armed m.index m.number verdict.arming ≡ false =
          ap (is_armed m.index m.number) suits.on
          ∙ (ap (λ (b : Bool). (arm.index == m.index) && b) no ∙ and_false (arm.index == m.index)) in
          ap (λ (b : Bool). cond {A = ℕ} ((is_answer verdict.outcome && b) && is_take x (take_of m)) 1 0) unarmed
          ∙ ap (λ (b : Bool). cond {A = ℕ} (b && is_take x (take_of m)) 1 0) (and_false (is_answer verdict.outcome))) in
          let armed : is_armed arm.index suits.number verdict.arming ≡ true =
          ap (is_armed arm.index suits.number) suits.on
          ∙ (ap (λ (b : Bool). b && (suits.number == suits.number)) (eq-eqb arm.index arm.index refl) ∙ eq-eqb suits.number suits.number refl) in
          let here : meets x verdict met ≡ cond {A = ℕ} (is_take x (take_of met)) 1 0 =
          ap (λ (b : Bool). cond {A = ℕ} ((is_answer verdict.outcome && b) && is_take x (take_of met)) 1 0) armed
          ∙ ap (λ (b : Bool). cond {A = ℕ} ((b && true) && is_take x (take_of met)) 1 0) is in
          let alone = counted (is_take x) (take_of met) [] in
          let its : hits_at x arm ≡ count_by (is_take x) (take_of met ∷ []) = ap (λ (a : ArmOutcome). count_by (is_take x) (hit_in arm.setter arm.index a)) hit.is in
          omega (arith, one, here, alone, its)

      hits_same : (x : Take) → Same (hits_at x) (takes_at x)
      hits_same x arm verdict suits answers_so = by_outcome verdict.outcome refl suits.became
        where
          by_outcome : (o : Outcome) → verdict.outcome ≡ o → Became all arm.index suits.number arm.setter o arm.outcome
              → hits_at x arm ≡ takes_at x verdict
          by_outcome outcomes.Quiet is became =
              ap (λ (a : ArmOutcome). count_by (is_take x) (hit_in arm.setter arm.index a)) became ∙ sym (no_answer x verdict (ap is_answer is))
          by_outcome (outcomes.Unknown old new) is became =
              ap (λ (a : ArmOutcome). count_by (is_take x) (hit_in arm.setter arm.index a)) became ∙ sym (no_answer x verdict (ap is_answer is))
          by_outcome (outcomes.Dropped reason) is became = hit_same x arm verdict suits (dropped reason) (ap is_answer is) became
          by_outcome (outcomes.Report pair seen) is became = hit_same x arm verdict suits results.Report (ap is_answer is) became
          by_outcome outcomes.Nothing is became = absurd became
          by_outcome outcomes.Lost is became = absurd became
          by_outcome (outcomes.Told pair) is became = absurd became
          by_outcome outcomes.Capacity is became = absurd became
          by_outcome outcomes.Unencodable is became = absurd became

      -- each taking has one answer
      one_answer : (x : Take) (met : Meeting) → HasOneAnswer list met.index met.number
          → sum_by (λ (c : OutcomeAt). meets x c met) (outcomes_of list) ≡ cond {A = ℕ} (is_take x (take_of met)) 1 0
      one_answer x met has = by_take (is_take x (take_of met)) refl
        where
          so_many : count_by (answers met.index met.number) (outcomes_of list) ≡ 1
          so_many = sym (length-filter (answers met.index met.number) (outcomes_of list)) ∙ ap (λ (l : List OutcomeAt). length l) has.only

          and_true : (b : Bool) → (b && true) ≡ b
          and_true true = refl
          and_true false = refl

          by_take : (b : Bool) → is_take x (take_of met) ≡ b
              → sum_by (λ (c : OutcomeAt). meets x c met) (outcomes_of list) ≡ cond {A = ℕ} (is_take x (take_of met)) 1 0
          by_take true is =
              same_sums (λ (c : OutcomeAt). meets x c met) (λ (c : OutcomeAt). cond {A = ℕ} (answers met.index met.number c) 1 0)
              (λ c. ap (λ (b : Bool). cond {A = ℕ} (answers met.index met.number c && b) 1 0) is
              ∙ ap (λ (b : Bool). cond {A = ℕ} b 1 0) (and_true (answers met.index met.number c))) (outcomes_of list)
              ∙ (so_many ∙ sym (ap (λ (b : Bool). cond {A = ℕ} b 1 0) is))
          by_take false is =
              zero_sum (λ (c : OutcomeAt). meets x c met)
              (λ c. ap (λ (b : Bool). cond {A = ℕ} (answers met.index met.number c && b) 1 0) is
              ∙ ap (λ (b : Bool). cond {A = ℕ} b 1 0) (and_false (answers met.index met.number c))) (outcomes_of list)
              ∙ sym (ap (λ (b : Bool). cond {A = ℕ} b 1 0) is)

      each_once : (x : Take) (mets : List Meeting) → Each (λ (met : Meeting). HasOneAnswer list met.index met.number) mets
          → sum_by (λ (met : Meeting). sum_by (λ (c : OutcomeAt). meets x c met) (outcomes_of list)) mets ≡ count_by (λ (met : Meeting). is_take x (take_of met)) mets
      each_once x [] each = refl
      each_once x (met ∷ mets) each =
          let rest = each_once x mets each.1 in
          let one = sum_by-cons (λ (m : Meeting). sum_by (λ (c : OutcomeAt). meets x c m) (outcomes_of list)) met mets in
          let other = counted (λ (m : Meeting). is_take x (take_of m)) met mets in
          let now = one_answer x met each.0 in omega (arith, rest, one, other, now)

      -- what was told, task by task
      abbrev told_worth : Take → Worth
      told_worth x latest earlier = count_by (is_take x) (map take_of (told_by latest.task latest.step earlier []))

      told_one : (x : Take) (index ticket : ℕ) (last : Option ℕ) (both : Option Halves) (before : List Meeting)
          → count_by (λ (m : Meeting). is_take x (take_of m)) (told_to index ticket last both before)
          ≡ count_by (is_take x) (map take_of (told_to index ticket last both [])) + count_by (λ (m : Meeting). is_take x (take_of m)) before
      told_one x index ticket (Some number) (Some both) before =
          let met : Meeting = record { index = index; number = number; setter = both.setter; finder = ticket } in
          let one = counted (λ (m : Meeting). is_take x (take_of m)) met before in
          let other = counted (is_take x) (take_of met) [] in omega (arith, one, other)
      told_one x index ticket None both before = omega arith
      told_one x index ticket (Some number) None before = omega arith

      told_step : (x : Take) (task : ℕ) (step : Step) (earlier : List Record) (before : List Meeting)
          → count_by (λ (m : Meeting). is_take x (take_of m)) (told_by task step earlier before)
          ≡ count_by (is_take x) (map take_of (told_by task step earlier [])) + count_by (λ (m : Meeting). is_take x (take_of m)) before
      told_step x task (steps.Tell index ticket) earlier before =
          told_one x index ticket (last_arming_number index earlier) (heard index (records_of task earlier)) before
      told_step x task step earlier before = omega arith

      told_total : (x : Take) (records : List Record)
          → total (told_worth x) records ≡ count_by (λ (m : Meeting). is_take x (take_of m)) (finders_told records)
      told_total x [] = refl
      told_total x (latest ∷ earlier) =
          let rest = told_total x earlier in
          let now = told_step x latest.task latest.step earlier (finders_told earlier) in omega (arith, rest, now)

      told_own : (x : Take) (task : ℕ) (records : List Record)
          → count_by (is_take x) (takes_by task records) ≡ own (told_worth x) task records
      told_own x task [] = refl
      told_own x task (latest ∷ earlier) = by_test (latest.task == task) (told_own x task earlier)
        where
          by_test : (b : Bool) → count_by (is_take x) (takes_by task earlier) ≡ own (told_worth x) task earlier
              → count_by (is_take x) (takes_by task earlier ++ (if b then map take_of (told_by latest.task latest.step earlier []) else []))
              ≡ cond {A = ℕ} b (told_worth x latest earlier) 0 + own (told_worth x) task earlier
          by_test true rest =
              let both = counted_both (is_take x) (takes_by task earlier) (map take_of (told_by latest.task latest.step earlier [])) in omega (arith, rest, both)
          by_test false rest =
              let both = counted_both (is_take x) (takes_by task earlier) [] in
              let nothing : count_by (is_take x) [] ≡ 0 = refl in omega (arith, rest, both, nothing)

      takes_by_task : (x : Take) (tasks : ℕ) (takes : List Take) → ByTask (AreTakesOf list) tasks takes
          → count_by (is_take x) takes ≡ by_task run all list (told_worth x) (λ task. count_by (is_take x) (takes_by task all)) tasks
      takes_by_task x zero takes are = ap (λ (l : List Take). count_by (is_take x) l) are
      takes_by_task x (suc task) takes are =
          let rest = takes_by_task x task are.0 are.3 in
          let split : count_by (is_take x) takes ≡ count_by (is_take x) (are.0 ++ are.1) = ap (λ (l : List Take). count_by (is_take x) l) are.2 in
          let both = counted_both (is_take x) are.0 are.1 in
          let own_so : count_by (is_take x) are.1 ≡ count_by (is_take x) (takes_by task all) = ap (λ (l : List Take). count_by (is_take x) l) are.4 in
          omega (arith, rest, split, both, own_so)

      pub takings : All (λ (met : Meeting). HasOneAnswer list met.index met.number) (finders_told all) → (arms : List Arm)
          → ByTask (AreArmsOf list) (length run.program.tasks) arms → (takes : List Take)
          → ByTask (AreTakesOf list) (length run.program.tasks) takes → (x : Take)
          → count_by (is_take x) (hits_in arms) ≡ count_by (is_take x) takes
      takings once arms are takes taken x =
          let each = each_of (λ (met : Meeting). HasOneAnswer list met.index met.number) (finders_told all)
          (λ met there. All-contains (λ (m : Meeting). HasOneAnswer list m.index m.number) (finders_told all) met once there) in
          counted_flat (is_take x) (λ (a : Arm). hit_in a.setter a.index a.outcome) arms
          ∙ (arms_sum (hits_at x) (takes_at x) (hits_same x) (λ c none. no_answer x c (unanswered c.outcome none)) arms are
          ∙ (swapped (λ (c : OutcomeAt) (met : Meeting). meets x c met) (outcomes_of list) (finders_told all)
          ∙ (each_once x (finders_told all) each
          ∙ sym (takes_by_task x (length run.program.tasks) takes taken
          ∙ (all_add_up run all list (told_worth x) (λ task. count_by (is_take x) (takes_by task all)) (λ task there. told_own x task all)
          ∙ told_total x all)))))
