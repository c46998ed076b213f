-- The armings of an execution whose tasks have ended may stand in a trace, and are true there.
use Rattle.std.proofs.Common.{◌≡◌, ◌==◌, ◌⊎◌, ◌∙◌, ◌++◌, ◌∷◌, [], Bool, true, false, inl, inr, ℕ, suc, All, Contains, IsTrue, List, MatchBool, None, Option}
use Rattle.std.proofs.Common.{Some, ap, append_assoc, append-nil, arith, if◌then◌else◌, length, map, refl, slice_index_or, subst, sym}
use Rattle.std.specs.List.{filter}
use Rattle.std.specs.Option.{option_map}
use Rattle.std.proofs.lemmas.Bool.Decides.{eqb_tells}
use Rattle.std.proofs.lemmas.List.{length-append}
use Rattle.std.proofs.lemmas.List.Elements.{All-append, All-cons, All-contains, All-contains_itself, All-nil, Contains-append_left, Contains-append_right}
use Rattle.access_types.specs.Arms.{Arm}
use Rattle.executions.specs.execution.Run.{Run, first_cells, locks_of, task_setting}
use Rattle.executions.specs.execution.Execution.{Execution}
use Rattle.executions.specs.execution.Observed.{Armed, OutcomeAt, armed_by, armed_in, came_next, outcome_at, outcomes_by, outcomes_of}
use Rattle.executions.proofs.execution.CheckFacts.{back}
use Rattle.executions.proofs.execution.OwnLasts.{one_arming, own_word, stands_later}
use Rattle.log_correctness.specs.Lists.{AreArmsAt, AreArmsBy, IsArm, verdicts_by}
use Rattle.soundness.specs.Watches.{IfVerdict, IsOfWatch, is_verdict}
use Rattle.soundness.proofs.Finds.{back_is}
use Rattle.setup_access.specs.Check.{Fallen}
use Rattle.setup_access.specs.Setting as checks
use Rattle.slot_table.specs.Armings.{Arming, armed_after, last_arming, last_arming_number, number_after}
use Rattle.slot_table.specs.Discipline.{in_hand}
use Rattle.slot_table.specs.Hearings.{IsArming, SomeRecord}
use Rattle.slot_table.specs.Records.{records_of}
use Rattle.slot_table.specs.declared.discipline.InHand.{InHand}
use Rattle.slot_table.specs.declared.records.Record.{Record}
use Rattle.slot_table.specs.declared.step.Answer.{Answer}
use Rattle.slot_table.specs.declared.step.Answer.TheVariants as answers
use Rattle.slot_table.specs.declared.step.Step.{Step}
use Rattle.slot_table.specs.declared.step.Step.TheVariants as steps
use Rattle.slot_table.proofs.Lists.{Keeps, keeps_before}
use Rattle.report_text.specs.Truth.{IsIndexOf}
use Rattle.watch_word.specs.Word.{word_of}
use Rattle.program_order.specs.Standing.{checks_of}
use Rattle.accepted_traces.proofs.Spans.{split_of}
use Rattle.accepted_traces.proofs.Watches.{tried_index, watch_ends}

-- ---- the last arming at an index

-- a step inserts a word, or changes nothing that is armed
Inserts : Step → Answer → Type 0
Inserts step answer = ((at : ℕ) × (word : ℕ) × (step ≡ steps.Insert at word) × (answer ≡ answers.Flag true))
    ⊎ ((index task n : ℕ) (before : Option ℕ) (armed : Option Arming) → (number_after index step answer n before ≡ before) × (armed_after index task step answer armed ≡ armed))

inserts_or_not : (step : Step) (answer : Answer) → Inserts step answer
unfolding Inserts
inserts_or_not (steps.Insert at word) (answers.Flag true) = inl (at, word, refl, refl)
inserts_or_not (steps.Insert at word) (answers.Flag false) = inr (λ index task n before armed. (refl, refl))
inserts_or_not (steps.Insert at word) (answers.Word w) = inr (λ index task n before armed. (refl, refl))
inserts_or_not (steps.Insert at word) (answers.Halves setter finder) = inr (λ index task n before armed. (refl, refl))
inserts_or_not (steps.Insert at word) answers.Done = inr (λ index task n before armed. (refl, refl))
inserts_or_not (steps.Load at) answer = inr (λ index task n before armed. (refl, refl))
inserts_or_not (steps.TryConsume at word) answer = inr (λ index task n before armed. (refl, refl))
inserts_or_not (steps.Consume at) answer = inr (λ index task n before armed. (refl, refl))
inserts_or_not (steps.Remove at) answer = inr (λ index task n before armed. (refl, refl))
inserts_or_not (steps.PairLoad at) answer = inr (λ index task n before armed. (refl, refl))
inserts_or_not (steps.Name at ticket) answer = inr (λ index task n before armed. (refl, refl))
inserts_or_not (steps.Tell at ticket) answer = inr (λ index task n before armed. (refl, refl))
inserts_or_not (steps.Clear at) answer = inr (λ index task n before armed. (refl, refl))
inserts_or_not (steps.CellLoad at) answer = inr (λ index task n before armed. (refl, refl))
inserts_or_not (steps.CellExchange at expected new) answer = inr (λ index task n before armed. (refl, refl))
inserts_or_not (steps.LockTry at holder) answer = inr (λ index task n before armed. (refl, refl))
inserts_or_not (steps.LockStore at) answer = inr (λ index task n before armed. (refl, refl))
inserts_or_not steps.Clock answer = inr (λ index task n before armed. (refl, refl))

-- the last arming at an index stands in the list
pub record LastArming (index number : ℕ) (records : List Record) : Type 0 where
  pub setter : ℕ
  pub word : ℕ
  pub last : last_arming index records ≡ Some (record { setter = setter; word = word })
  pub stands : SomeRecord (IsArming index number setter word) records

pub arming_of : (index number : ℕ) (records : List Record) → last_arming_number index records ≡ Some number → LastArming index number records
unfolding Inserts
arming_of index number [] is = absurd cc
arming_of index number (latest ∷ earlier) is = by (inserts_or_not latest.step latest.answer) (arming_of index number earlier)
  where
    by : Inserts latest.step latest.answer → (last_arming_number index earlier ≡ Some number → LastArming index number earlier) → LastArming index number (latest ∷ earlier)
    by (inr still) before =
        let same = still index latest.task (length earlier) (last_arming_number index earlier) (last_arming index earlier) in
        let it = before (sym same.0 ∙ is) in
        record { setter = it.setter; word = it.word; last = same.1 ∙ it.last; stands = inr it.stands }
    by (inl inserts) before =
        let step : latest.step ≡ steps.Insert inserts.0 inserts.1 = inserts.2 in
        let answer : latest.answer ≡ answers.Flag true = inserts.3 in
        let number_is : number_after index latest.step latest.answer (length earlier) (last_arming_number index earlier)
        ≡ number_after index (steps.Insert inserts.0 inserts.1) (answers.Flag true) (length earlier) (last_arming_number index earlier) = rw (step, answer) refl in
        let armed_is : armed_after index latest.task latest.step latest.answer (last_arming index earlier)
        ≡ armed_after index latest.task (steps.Insert inserts.0 inserts.1) (answers.Flag true) (last_arming index earlier) = rw (step, answer) refl in
        elim (eqb_tells inserts.0 index) [
          | inl here ↦
              let number_here : Some (length earlier) ≡ Some number = sym (number_is ∙ ap (λ b. if b then Some (length earlier) else last_arming_number index earlier) here.0) ∙ is in
              let count : length earlier ≡ number = cc in
              record {
                setter = latest.task;
                word = inserts.1;
                last = armed_is ∙ ap (λ b. if b then Some (record { setter = latest.task; word = inserts.1 }) else last_arming index earlier) here.0;
                stands = inl (record { task = refl; step = step ∙ ap (λ n. steps.Insert n inserts.1) here.1; answer = answer; counts = count });
              }
          | inr apart ↦
              let it = before (sym (number_is ∙ ap (λ b. if b then Some (length earlier) else last_arming_number index earlier) apart.0) ∙ is) in
              record {
                setter = it.setter;
                word = it.word;
                last = armed_is ∙ (ap (λ b. if b then Some (record { setter = latest.task; word = inserts.1 }) else last_arming index earlier) apart.0 ∙ it.last);
                stands = inr it.stands;
              }
        ]

option_armed : (o : Option ℕ) (at index number : ℕ) → option_map {U = Armed} (λ (n : ℕ). record { index = at; number = n }) o ≡ Some (record { index = index; number = number })
    → (at ≡ index) × (o ≡ Some number)
option_armed None at index number is = absurd (let no : ◌≡◌ {A = Option Armed} None (Some (record { index = index; number = number })) = is in cc)
option_armed (Some n) at index number is =
    let one : ◌≡◌ {A = Armed} (record { index = at; number = n }) (record { index = index; number = number }) = same_armed _ _ is in
    (ap (λ (x : Armed). x.index) one, ap (λ (x : Armed). Some x.number) one)
  where
    same_armed : (p q : Armed) → ◌≡◌ {A = Option Armed} (Some p) (Some q) → p ≡ q
    same_armed p q e = cc

same_end : (first later other others : List Record) → first ++ later ≡ other ++ others → length later ≡ length others → later ≡ others
same_end [] later [] others is long = is
same_end [] later (x ∷ other) others is long =
    let all : length later ≡ length (x ∷ (other ++ others)) = ap (λ (l : List Record). length l) is in
    absurd (omega (arith, all, long, length-append other others))
same_end (x ∷ first) later [] others is long =
    let all : length (x ∷ (first ++ later)) ≡ length others = ap (λ (l : List Record). length l) is in
    absurd (omega (arith, all, long, length-append first later))
same_end (x ∷ first) later (y ∷ other) others is long = same_end first later other others (cc) long

-- ---- verdicts

module _ (run : Run) (records : List Record) (list : Execution run records) where
  outcomes_more : (later earlier : List Record) → (more : List OutcomeAt) × (outcomes_by list (later ++ earlier) ≡ outcomes_by list earlier ++ more)
  outcomes_more [] earlier = ([], sym (append-nil (outcomes_by list earlier)))
  outcomes_more (latest ∷ later) earlier =
      let it = outcomes_more later earlier in
      let now : List OutcomeAt = came_next list latest (later ++ earlier) in
      (it.0 ++ now, ap (λ (o : List OutcomeAt). o ++ now) it.1 ∙ append_assoc (outcomes_by list earlier) it.0 now)

  -- a verdict that fell at a record of the task
  pub record VerdictAt (task : ℕ) (came : OutcomeAt) : Type 0 where
    pub later : List Record
    pub latest : Record
    pub earlier : List Record
    pub split : records ≡ later ++ latest ∷ earlier
    pub mine : latest.task ≡ task
    pub at : came.at ≡ length earlier
    pub arming : came.arming ≡ armed_by latest.task (latest ∷ earlier)
    pub told : Contains (outcomes_of list) came
    pub is : IsTrue (is_verdict came.outcome)

  CameSo : List Record → Record → List Record → OutcomeAt → Type 0
  CameSo later latest earlier came = (came.at ≡ length earlier) × (came.arming ≡ armed_by latest.task (latest ∷ earlier))

  so_all : (later : List Record) (latest : Record) (earlier : List Record) (fallen : List Fallen)
      → All (CameSo later latest earlier) (map (outcome_at (length earlier) (armed_by latest.task (latest ∷ earlier))) fallen)
  unfolding CameSo
  so_all later latest earlier [] = All-nil (CameSo later latest earlier)
  so_all later latest earlier (f ∷ fallen) =
      All-cons (CameSo later latest earlier) (outcome_at (length earlier) (armed_by latest.task (latest ∷ earlier)) f) _ (refl, refl) (so_all later latest earlier fallen)

  kept : (p : OutcomeAt → Bool) (P : OutcomeAt → Type 0) (xs : List OutcomeAt) → All P xs → All (λ x. P x × (p x ≡ true)) (filter p xs)
  kept p P [] all = All-nil (λ x. P x × (p x ≡ true))
  kept p P (x ∷ xs) all = by (p x) refl (kept p P xs (λ k d below. all (suc k) d (omega (arith, below))))
    where
      by : (b : Bool) → p x ≡ b → All (λ y. P y × (p y ≡ true)) (filter p xs) → All (λ y. P y × (p y ≡ true)) (filter p (x ∷ xs))
      by true e more = rw e (All-cons (λ y. P y × (p y ≡ true)) x (filter p xs) (all 0 x (omega arith), e) more)
      by false e more = rw e more

  pub verdicts_from : (later earlier : List Record) (task : ℕ) → records ≡ later ++ earlier → All (VerdictAt task) (verdicts_by list task earlier)
  unfolding CameSo
  verdicts_from later [] task is = All-nil (VerdictAt task)
  verdicts_from later (latest ∷ earlier) task is =
      let before = verdicts_from (later ++ latest ∷ []) earlier task (is ∙ sym (append_assoc later (latest ∷ []) earlier)) in
      let now : List OutcomeAt = came_next list latest earlier in
      let inside : (came : OutcomeAt) → Contains now came → Contains (outcomes_of list) came =
      λ came h.
      let more = outcomes_more later (latest ∷ earlier) in
      subst (λ (o : List OutcomeAt). Contains o came) (sym (ap (λ (r : List Record). outcomes_by list r) is ∙ more.1))
      (Contains-append_left (outcomes_by list (latest ∷ earlier)) more.0 came (Contains-append_right (outcomes_by list earlier) now came h)) in
      elim (eqb_tells latest.task task) [
        | inl mine ↦
            let all : All (λ came. (CameSo later latest earlier came × Contains now came) × (is_verdict came.outcome ≡ true)) (filter (λ came. is_verdict came.outcome) now) =
            kept (λ came. is_verdict came.outcome) (λ came. CameSo later latest earlier came × Contains now came) now
            (λ k d below. (so_all later latest earlier _ k d below, All-contains_itself now k d below)) in
            rw mine.0 (All-append (VerdictAt task) (verdicts_by list task earlier) (filter (λ came. is_verdict came.outcome) now) before
            (λ k d below.
            let it = all k d below in
            record {
              later = later;
              latest = latest;
              earlier = earlier;
              split = is;
              mine = mine.1;
              at = it.0.0.0;
              arming = it.0.0.1;
              told = inside (slice_index_or (filter (λ came. is_verdict came.outcome) now) k d) it.0.1;
              is = it.1;
            }))
        | inr others ↦ rw others.0 (All-append (VerdictAt task) (verdicts_by list task earlier) [] before (All-nil (VerdictAt task)))
      ]

  -- ---- the watch of a verdict

  module _ (rules : Keeps run.rules.slots (locks_of run) (first_cells run) records) (watches : All (IfVerdict list) (outcomes_of list)) where
    rules_before : (later earlier : List Record) → Keeps run.rules.slots (locks_of run) (first_cells run) (later ++ earlier)
        → Keeps run.rules.slots (locks_of run) (first_cells run) earlier
    rules_before [] earlier keeps = keeps
    rules_before (latest ∷ later) earlier keeps =
        rules_before later earlier (keeps_before run.rules.slots (locks_of run) (first_cells run) latest (later ++ earlier) keeps)

    -- the arming of a verdict is under its access's word, at one of its indices
    pub record IsWatchOf (task index number : ℕ) (came : OutcomeAt) : Type 0 where
      pub watch : IsOfWatch list came
      pub mine : came.access.task ≡ task
      pub index_of : IsIndexOf run.rules.slots came.access.addr index
      pub stands : SomeRecord (IsArming index number task (word_of run.rules.layout came.access)) records

    pub watch_of : (task index number word : ℕ) (came : OutcomeAt) → VerdictAt task came → came.arming ≡ Some (record { index = index; number = number })
        → SomeRecord (IsArming index number task word) records → IsWatchOf task index number came
    watch_of task index number word came at on armed =
        let w : IsOfWatch list came = All-contains (IfVerdict list) (outcomes_of list) came watches at.told at.is in
        let s : checks.Setting = checks_of (task_setting run came.access.task) in
        let same : w.by_then ≡ at.latest ∷ at.earlier =
        same_end w.later w.by_then at.later (at.latest ∷ at.earlier) (sym w.split ∙ at.split)
        (w.at ∙ ap suc at.at) in
        let mine : came.access.task ≡ task = sym (w.mine at.latest at.earlier same) ∙ at.mine in
        let index_now : ℕ = w.is_watch.index in
        let ends = watch_ends s came.access w.watch w.before (record { index = index_now; outcome = came.outcome }) w.is_watch.sets_up in
        let own : back w.watch w.before ≡ records_of task (at.latest ∷ at.earlier) =
        back_is w.watch w.before ∙ (sym w.own ∙ (ap (λ (t : ℕ). records_of t w.by_then) mine ∙ ap (λ (r : List Record). records_of task r) same)) in
        let hand : in_hand (records_of task (at.latest ∷ at.earlier)) ≡ Some (record { index = index_now; part = ends.1.part }) =
        subst (λ (r : List Record). in_hand r ≡ Some (record { index = index_now; part = ends.1.part })) own ends.1.hand in
        let arming : came.arming ≡ option_map {U = Armed} (λ (n : ℕ). record { index = index_now; number = n }) (last_arming_number index_now (at.latest ∷ at.earlier)) =
        at.arming ∙ (ap (λ (t : ℕ). armed_by t (at.latest ∷ at.earlier)) at.mine
        ∙ ap (λ (h : Option InHand). armed_in h (at.latest ∷ at.earlier)) hand) in
        let it = option_armed (last_arming_number index_now (at.latest ∷ at.earlier)) index_now index number (sym arming ∙ on) in
        let last = arming_of index_now number (at.latest ∷ at.earlier) it.1 in
        let there : SomeRecord (IsArming index number last.setter last.word) records =
        subst (λ (n : ℕ). SomeRecord (IsArming n number last.setter last.word) records) it.0
        (subst (λ (r : List Record). SomeRecord (IsArming index_now number last.setter last.word) r) (sym at.split)
        (stands_later (IsArming index_now number last.setter last.word) at.later (at.latest ∷ at.earlier) last.stands)) in
        let both = one_arming index number last.setter last.word task word records there armed in
        let says = own_word run.rules.slots (locks_of run) (first_cells run) (at.latest ∷ at.earlier) index_now (record { setter = last.setter; word = last.word })
        (rules_before at.later (at.latest ∷ at.earlier) (subst (Keeps run.rules.slots (locks_of run) (first_cells run)) at.split rules)) last.last in
        let says_mine : last_arming index_now (records_of task (at.latest ∷ at.earlier)) ≡ Some (record { setter = last.setter; word = last.word }) =
        subst (λ (t : ℕ). last_arming index_now (records_of t (at.latest ∷ at.earlier)) ≡ Some (record { setter = last.setter; word = last.word })) both.0 says in
        let own_armed : last_arming index_now (records_of task (at.latest ∷ at.earlier)) ≡ Some (record { setter = came.access.task; word = word_of run.rules.layout came.access }) =
        subst (λ (r : List Record). last_arming index_now r ≡ Some (record { setter = came.access.task; word = word_of run.rules.layout came.access })) own ends.1.armed in
        let words : last.word ≡ word_of run.rules.layout came.access =
        word_is (record { setter = last.setter; word = last.word }) (record { setter = came.access.task; word = word_of run.rules.layout came.access }) (sym says_mine ∙ own_armed) in
        record {
          watch = w;
          mine = mine;
          index_of = subst (λ (n : ℕ). IsIndexOf run.rules.slots came.access.addr n) it.0 (tried_index s came.access index_now ends.0);
          stands = subst (λ (t : ℕ). SomeRecord (IsArming index number t (word_of run.rules.layout came.access)) records) both.0
              (subst (λ (x : ℕ). SomeRecord (IsArming index number last.setter x) records) words there);
        }
      where
        word_is : (p q : Arming) → Some p ≡ Some q → p.word ≡ q.word
        word_is p q e = let same : p ≡ q = cc in ap (λ (x : Arming). x.word) same

    -- ---- the armings of a task

    pub record ArmAt (task : ℕ) (before : List Arm) (arm : Arm) : Type 0 where
      pub later : List Record
      pub earlier : List Record
      pub index : ℕ
      pub split : records ≡ later ++ earlier
      pub is : IsArm list task index earlier before arm
      pub later_after : List Record
      pub after : List Record
      pub split_after : records ≡ later_after ++ after
      pub with_it : AreArmsBy list task after (before ++ arm ∷ [])

    -- a step removes an arming, or leaves them
    at_step : (task : ℕ) (step : Step) (earlier : List Record) (before after : List Arm) → AreArmsAt list task step earlier before after
        → (after ≡ before) ⊎ ((index : ℕ) × (arm : Arm) × IsArm list task index earlier before arm × (after ≡ before ++ arm ∷ []))
    at_step task (steps.Remove index) earlier before after h = inr (index, h.0, h.1, h.2)
    at_step task (steps.Load index) earlier before after h = inl h
    at_step task (steps.Insert index word) earlier before after h = inl h
    at_step task (steps.TryConsume index word) earlier before after h = inl h
    at_step task (steps.Consume index) earlier before after h = inl h
    at_step task (steps.PairLoad index) earlier before after h = inl h
    at_step task (steps.Name index ticket) earlier before after h = inl h
    at_step task (steps.Tell index ticket) earlier before after h = inl h
    at_step task (steps.Clear index) earlier before after h = inl h
    at_step task (steps.CellLoad cell) earlier before after h = inl h
    at_step task (steps.CellExchange cell expected new) earlier before after h = inl h
    at_step task (steps.LockTry lock holder) earlier before after h = inl h
    at_step task (steps.LockStore lock) earlier before after h = inl h
    at_step task steps.Clock earlier before after h = inl h

    last_one : (u l : List Arm) (arm a : Arm) → arm ∷ [] ≡ u ++ a ∷ l → (u ≡ []) × (arm ≡ a)
    last_one [] l arm a is = (refl, cc)
    last_one (x ∷ u) l arm a is =
        let long : 1 ≡ length (x ∷ (u ++ a ∷ l)) = ap (λ (r : List Arm). length r) is in absurd (omega (arith, long, length-append u (a ∷ l)))

    pub arm_at : (later earlier : List Record) (task : ℕ) (after before rest : List Arm) (arm : Arm) → records ≡ later ++ earlier → AreArmsBy list task earlier after
        → after ≡ before ++ arm ∷ rest → ArmAt task before arm
    arm_at later [] task after before rest arm split h is =
        let long : 0 ≡ length (before ++ arm ∷ rest) = ap (λ (r : List Arm). length r) (sym h ∙ is) in absurd (omega (arith, long, length-append before (arm ∷ rest)))
    arm_at later (latest ∷ earlier) task after before rest arm split h is =
        by (latest.task == task) refl
        (λ (is_before : h.0 ≡ before ++ arm ∷ rest). arm_at (later ++ latest ∷ []) earlier task h.0 before rest arm (split ∙ sym (append_assoc later (latest ∷ []) earlier)) h.1 is_before)
        (λ (t : List Arm) (is_before : h.0 ≡ before ++ arm ∷ t). arm_at (later ++ latest ∷ []) earlier task h.0 before t arm (split ∙ sym (append_assoc later (latest ∷ []) earlier)) h.1 is_before) h.2
      where
        by : (b : Bool) → (latest.task == task) ≡ b → (h.0 ≡ before ++ arm ∷ rest → ArmAt task before arm) → ((t : List Arm) → h.0 ≡ before ++ arm ∷ t → ArmAt task before arm)
            → MatchBool (latest.task == task) (AreArmsAt list task latest.step earlier h.0 after) (after ≡ h.0) → ArmAt task before arm
        by true mine goes shorter given =
            let now : AreArmsAt list task latest.step earlier h.0 after = subst (λ (b : Bool). MatchBool b (AreArmsAt list task latest.step earlier h.0 after) (after ≡ h.0)) mine given in
            elim (at_step task latest.step earlier h.0 after now) [
              | inl same ↦ goes (sym same ∙ is)
              | inr new ↦ elim (split_of h.0 (new.1 ∷ []) before rest arm (sym new.3 ∙ is)) [
                | inl here ↦ shorter here.0 here.1
                | inr there ↦
                    let one = last_one there.0 rest new.1 arm there.2 in
                    let same : before ≡ h.0 = there.1 ∙ (ap (λ (u : List Arm). h.0 ++ u) one.0 ∙ append-nil h.0) in
                    record {
                      later = later ++ latest ∷ [];
                      earlier = earlier;
                      index = new.0;
                      split = split ∙ sym (append_assoc later (latest ∷ []) earlier);
                      is = subst (λ (x : Arm). IsArm list task new.0 earlier before x) one.1 (subst (λ (b : List Arm). IsArm list task new.0 earlier b new.1) (sym same) new.2);
                      later_after = later;
                      after = latest ∷ earlier;
                      split_after = split;
                      with_it = subst (λ (x : List Arm). AreArmsBy list task (latest ∷ earlier) x)
                          (new.3 ∙ (ap (λ (b : List Arm). b ++ new.1 ∷ []) (sym same) ∙ ap (λ (x : Arm). before ++ x ∷ []) one.1)) h;
                    }
              ]
            ]
        by false mine goes shorter given =
            let now : after ≡ h.0 = subst (λ (b : Bool). MatchBool b (AreArmsAt list task latest.step earlier h.0 after) (after ≡ h.0)) mine given in
            goes (sym now ∙ is)
