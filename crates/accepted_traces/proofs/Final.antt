-- The accesses, armings, takings and reports of an execution whose tasks have ended are the parts of one true trace.
use Rattle.std.proofs.Common.{◌≡◌, ◌≢◌, ◌<◌, ◌≤◌, ◌==◌, ◌&&◌, ◌+◌, ◌^◌, ◌⊎◌, ◌∙◌, ◌++◌, ◌∷◌, [], Bool, true, false, inl, inr, ℕ, suc, zero, All, AllPairs}
use Rattle.std.proofs.Common.{Contains, IsTrue, List, Some, ap, append_assoc, arith, count_by, if◌then◌else◌, length, map, refl, reverse, slice_index_or, subst}
use Rattle.std.proofs.Common.{sym}
use Rattle.std.specs.FinMap as fin
use Rattle.std.proofs.lemmas.Bool.{eq-eqb, eqb-true, ne_eqb}
use Rattle.std.proofs.lemmas.List.{length-append, length-reverse}
use Rattle.std.proofs.lemmas.List.Elements.{All-append, All-cons, All-contains, All-nil, Contains-append_right}
use Rattle.access_types.specs.Access as access
use Rattle.access_types.specs.Arms.{Arm}
use Rattle.access_types.specs.History.{InProgress, beginning, ending}
use Rattle.access_types.specs.Kind.{is_assertion, is_scoped}
use Rattle.access_types.specs.Stamped.{Stamped}
use Rattle.access_types.specs.Takes.{Take}
use Rattle.access_types.specs.Ticket.{ticket_number}
use Rattle.access_types.specs.declared.arms.ArmOutcome.{ArmOutcome}
use Rattle.access_types.specs.declared.arms.ArmOutcome.TheVariants as became
use Rattle.access_types.specs.declared.arms.HitResult.{HitResult}
use Rattle.access_types.specs.declared.kind.Kind.{Kind}
use Rattle.access_types.specs.declared.kind.Kind.TheVariants as kinds
use Rattle.litmus_semantics.specs.RunOfProgram.{setting_of}
use Rattle.litmus_semantics.specs.TextSites.{FitsTickets, block_sites}
use Rattle.report_text.specs.Truth.{AreOneBag, IsIndexOf, hit_in, hits_in, is_take}
use Rattle.executions.specs.execution.Run.{Run, first_cells, locks_of, task_of, task_setting}
use Rattle.executions.specs.execution.Execution.{Execution}
use Rattle.executions.specs.execution.Observed.{OutcomeAt, history_of, made_by, outcomes_of}
use Rattle.executions.proofs.execution.OwnLasts.{one_arming, own_latest, stands_later}
use Rattle.log_correctness.specs.Lists.{AreAccesses, AreArms, AreArmsBy, AreArmsOf, ByTask, verdicts_by}
use Rattle.soundness.specs.Events.{AreMarks, EachDoesItsEvent}
use Rattle.soundness.specs.Joined.{IfAnswersBoth}
use Rattle.soundness.specs.Watches.{IfVerdict, IsOfWatch, IsWatch}
use Rattle.slot_table.specs.Armings.{Arming}
use Rattle.slot_table.specs.Hearings.{IsArming, SomeRecord}
use Rattle.slot_table.specs.Meetings.{finders_told, numbers_met}
use Rattle.slot_table.specs.Records.{records_of}
use Rattle.slot_table.specs.declared.records.Record.{Record}
use Rattle.slot_table.specs.declared.step.Answer.TheVariants as answers
use Rattle.slot_table.specs.declared.step.Step.TheVariants as steps
use Rattle.slot_table.proofs.Lists.{Keeps}
use Rattle.watch_word.specs.Layout.{word_span}
use Rattle.watch_word.specs.Word.{WordOf, Watches, watch_of, word_of}
use Rattle.watch_word.specs.declared.layout.Layout.{Layout}
use Rattle.watch_word.specs.declared.layout.Layout.TheVariants.{W64, W32}
use Rattle.log_correctness.specs.Stamps.{stamps_in}
use Rattle.log_correctness.specs.Watched.{FitsItsTask, IfTold, IfWatched}
use Rattle.program_order.specs.Standing.{checks_of}
use Rattle.program_order.specs.TaskObserved.{did_by}
use Rattle.accepted_traces.specs.Parts.{ArmFits, OfNamed, OutcomeFits, TakeFits}
use Rattle.accepted_traces.proofs.Arms as arming
use Rattle.accepted_traces.proofs.Arms.{arming_of}
use Rattle.accepted_traces.proofs.Ended as ended
use Rattle.accepted_traces.proofs.Hits as hits
use Rattle.accepted_traces.proofs.OneVerdict.{counts, counts_both, is_of, one_verdict}
use Rattle.accepted_traces.proofs.Sections.{index_within}
use Rattle.accepted_traces.proofs.Spans.{split_of}

-- ---- counts

count_contains : {X : Type 0} (p : X → Bool) (xs : List X) (k : ℕ) (d : X) → k < length xs → p (slice_index_or xs k d) ≡ true → 1 ≤ count_by p xs
count_contains p [] k d below is = absurd (omega (arith, below))
count_contains p (x ∷ xs) zero d below is =
    let w : ◌≡◌ {A = ℕ} (if p x then 1 else 0) 1 = rw is refl in omega (arith, counts p x xs, w)
count_contains p (x ∷ xs) (suc k) d below is = omega (arith, counts p x xs, count_contains p xs k d (omega (arith, below)) is)

count_none : (n : ℕ) (arms : List Arm) → All (λ b. b.setter ≢ n) arms → count_by (λ (b : Arm). b.setter == n) arms ≡ 0
count_none n [] all = refl
count_none n (b ∷ arms) all =
    let w : ◌≡◌ {A = ℕ} (if b.setter == n then 1 else 0) 0 = rw (ne_eqb b.setter n (all 0 b (omega arith))) refl in
    omega (arith, counts (λ (c : Arm). c.setter == n) b arms, w, count_none n arms (λ k d below. all (suc k) d (omega (arith, below))))

count_setters : (n : ℕ) (arms : List Arm) → count_by (λ m. m == n) (map (λ (b : Arm). b.setter) arms) ≡ count_by (λ (b : Arm). b.setter == n) arms
count_setters n [] = refl
count_setters n (b ∷ arms) =
    omega (arith, counts (λ m. m == n) b.setter (map (λ (c : Arm). c.setter) arms), counts (λ (c : Arm). c.setter == n) b arms, count_setters n arms)

count_tickets : (n : ℕ) (came : List OutcomeAt) → All (λ c. ticket_number c.access ≡ n → is_scoped c.access.kind ≡ false) came
    → count_by (λ m. m == n) (map (λ (c : OutcomeAt). ticket_number c.access) came) ≤ count_by (is_of n) came
count_tickets n [] all = omega arith
count_tickets n (c ∷ came) all =
    omega (
      arith,
      counts (λ m. m == n) (ticket_number c.access) (map (λ (d : OutcomeAt). ticket_number d.access) came),
      counts (is_of n) c came,
      count_tickets n came (λ k d below. all (suc k) d (omega (arith, below))),
      weigh (ticket_number c.access == n) refl,
    )
  where
    weigh : (b : Bool) → (ticket_number c.access == n) ≡ b → (if ticket_number c.access == n then 1 else 0) ≤ (if is_of n c then 1 else 0)
    weigh true is =
        let plain : is_scoped c.access.kind ≡ false = all 0 c (omega arith) (eqb-true (ticket_number c.access) n is) in
        rw (is, plain) (omega arith)
    weigh false is = rw is (omega arith)

scoped_asserts : (kind : Kind) → is_scoped kind ≡ true → IsTrue (is_assertion kind)
scoped_asserts (kinds.Plain operation) is = absurd cc
scoped_asserts (kinds.Marked operation) is = absurd cc
scoped_asserts (kinds.Assert claim) is = refl
scoped_asserts (kinds.AssertScoped claim) is = refl

span_limit : (layout : Layout) → word_span layout ≤ 2 ^ 64
span_limit W64 = omega arith
span_limit W32 = omega arith

both_true : (a b : Bool) → (a && b) ≡ true → (a ≡ true) × (b ≡ true)
both_true true b is = (refl, is)
both_true false b is = absurd cc

same_arming : (p q : Arming) → Some p ≡ Some q → p ≡ q
same_arming p q e = cc

-- a hit that armings tell of is that of one of them
record HitOf (t : Take) (arms : List Arm) : Type 0 where
  earlier : List Arm
  later : List Arm
  arm : Arm
  split : arms ≡ earlier ++ arm ∷ later
  finder : ℕ
  result : HitResult
  is : arm.outcome ≡ became.Hit finder result
  finder_is : t.finder ≡ finder
  index_is : t.index ≡ arm.index
  setter_is : t.setter ≡ arm.setter

hit_of : (t : Take) (arms : List Arm) → 1 ≤ count_by (is_take t) (hits_in arms) → HitOf t arms
hit_of t [] some = absurd (omega (arith, some))
hit_of t (a ∷ arms) some = by a.outcome refl (hit_of t arms)
  where
    shift : HitOf t arms → HitOf t (a ∷ arms)
    shift h = record {
      earlier = a ∷ h.earlier;
      later = h.later;
      arm = h.arm;
      split = ap (λ (l : List Arm). a ∷ l) h.split;
      finder = h.finder;
      result = h.result;
      is = h.is;
      finder_is = h.finder_is;
      index_is = h.index_is;
      setter_is = h.setter_is;
    }

    parts : (o : ArmOutcome) → a.outcome ≡ o → count_by (is_take t) (hits_in (a ∷ arms)) ≡ count_by (is_take t) (hit_in a.setter a.index o) + count_by (is_take t) (hits_in arms)
    parts o is = ap (λ (x : ArmOutcome). count_by (is_take t) (hit_in a.setter a.index x ++ hits_in arms)) is ∙ counts_both (is_take t) (hit_in a.setter a.index o) (hits_in arms)

    by : (o : ArmOutcome) → a.outcome ≡ o → (1 ≤ count_by (is_take t) (hits_in arms) → HitOf t arms) → HitOf t (a ∷ arms)
    by became.Quiet is more = shift (more (omega (arith, some, parts became.Quiet is)))
    by became.Origin is more = shift (more (omega (arith, some, parts became.Origin is)))
    by (became.Hit finder result) is more = by_test (is_take t (record { finder = finder; index = a.index; setter = a.setter })) refl
      where
        u : Take
        u = record { finder = finder; index = a.index; setter = a.setter }

        by_test : (b : Bool) → is_take t (record { finder = finder; index = a.index; setter = a.setter }) ≡ b → HitOf t (a ∷ arms)
        by_test true yes_it =
            let one = both_true ((t.finder == finder) && (t.index == a.index)) (t.setter == a.setter) yes_it in
            let two = both_true (t.finder == finder) (t.index == a.index) one.0 in
            record {
              earlier = [];
              later = arms;
              arm = a;
              split = refl;
              finder = finder;
              result = result;
              is = is;
              finder_is = eqb-true t.finder finder two.0;
              index_is = eqb-true t.index a.index two.1;
              setter_is = eqb-true t.setter a.setter one.1;
            }
        by_test false none =
            let w : ◌≡◌ {A = ℕ} (if is_take t (record { finder = finder; index = a.index; setter = a.setter }) then 1 else 0) 0 = rw none refl in
            shift (more (omega (arith, some, parts (became.Hit finder result) is, counts (is_take t) (record { finder = finder; index = a.index; setter = a.setter }) [], w)))

module _ (run : Run) (records : List Record) (list : Execution run records) (each : EachDoesItsEvent list records)
    (stamps : (later earlier : List Record) (latest : Record) → records ≡ later ++ latest ∷ earlier → latest.step ≡ steps.Clock
    → latest.answer ≡ answers.Word (stamps_in earlier)) (few : stamps_in records < 2 ^ 64)
    (first : (task : ℕ) → AreMarks (did_by (list.tasks task) 0))
    (accesses : List Stamped) (are : AreAccesses list accesses)
    (fit : (a : access.Access) → Contains (history_of list) (beginning a) → FitsItsTask run a)
    (over : (a : access.Access) → Contains (history_of list) (beginning a) → Contains (history_of list) (ending a))
    (room : (task : ℕ) → task < length run.program.tasks → FitsTickets (block_sites (setting_of run.program run.places task) (task_of run task).body))
    (masks : (a : access.Access) → Contains (history_of list) (beginning a) → a.mask ≢ Some 0)
    (met_once : AllPairs (λ p q. p ≢ q) (numbers_met (finders_told records))) (told : All (IfTold list) (outcomes_of list))
    (watched : All (IfWatched list) (outcomes_of list)) (rules : Keeps run.rules.slots (locks_of run) (first_cells run) records)
    (watches : All (IfVerdict list) (outcomes_of list)) (both : All (IfAnswersBoth list) (outcomes_of list))
    (read_back : (layout : Layout) (a : access.Access) (word : ℕ) → WordOf layout a word → Watches layout word (watch_of layout a))
    (own_verdicts : (later earlier : List Record) (task : ℕ) (arms : List Arm) → records ≡ later ++ earlier → AreArmsBy list task earlier arms
    → (more : List ℕ) × (map (λ (came : OutcomeAt). ticket_number came.access) (verdicts_by list task earlier) ≡ map (λ (arm : Arm). arm.setter) arms ++ more)) where
  below : (a : access.Access) → Contains (history_of list) (beginning a) → a.task < length run.program.tasks
  below a begins = (fit a begins).below

  abbrev Among : access.Access → Type 0
  Among a = hits.Among run records list each stamps few first accesses are below over room masks a

  -- the access of a watch is in progress at some moment
  progress_of : (came : OutcomeAt) (w : IsOfWatch list came) → (moment : ℕ) × InProgress (history_of list) came.access moment
  progress_of came w = by w.by_then refl
    where
      some : (watch : List Record) → IsWatch (checks_of (task_setting run came.access.task)) came.access came.outcome watch → 0 < length watch
      some [] it = absurd it.sets_up.2
      some (x ∷ watch) it = omega arith

      by : (b : List Record) → w.by_then ≡ b → (moment : ℕ) × InProgress (history_of list) came.access moment
      by [] is = let long : length w.by_then ≡ 0 = ap (λ (r : List Record). length r) is in absurd (omega (arith, long, w.at))
      by (x ∷ e) is =
          let t : ℕ = came.access.task in
          let own : x ∷ records_of t e ≡ reverse w.watch ++ w.before =
          sym (own_latest t x e (w.mine x e is)) ∙ (ap (λ (r : List Record). records_of t r) (sym is) ∙ w.own) in
          let long : suc (made_by t e) ≡ length w.watch + length w.before =
          ap (λ (r : List Record). length r) own ∙ (length-append (reverse w.watch) w.before ∙ ap (λ (n : ℕ). n + length w.before) (length-reverse w.watch)) in
          let nonempty = some w.watch w.is_watch in
          let split : records ≡ (w.later ++ x ∷ []) ++ e =
          w.split ∙ (ap (λ (r : List Record). w.later ++ r) is ∙ sym (append_assoc w.later (x ∷ []) e)) in
          (_, w.goes (w.later ++ x ∷ []) e split (omega (arith, long, nonempty)) (omega (arith, long)))

  -- what is known of an arming
  record Known (task : ℕ) (before : List Arm) (arm : Arm) : Type 0 where
    at : arming.ArmAt run records list rules watches task before arm
    verdict_at : arming.VerdictAt run records list task at.is.verdict
    watch : arming.IsWatchOf run records list rules watches task at.index at.is.number at.is.verdict
    stands : SomeRecord (IsArming at.index at.is.number task arm.watch_word) records
    begun : Contains (history_of list) (beginning at.is.verdict.access)
    among : Among at.is.verdict.access

  known : (task : ℕ) (before : List Arm) (arm : Arm) → arming.ArmAt run records list rules watches task before arm → Known task before arm
  known task before arm at =
      let v : OutcomeAt = at.is.verdict in
      let all = subst (All (arming.VerdictAt run records list task)) at.is.verdict_is
      (arming.verdicts_from run records list at.later at.earlier task at.split) in
      let verdict_at : arming.VerdictAt run records list task v =
      All-contains (arming.VerdictAt run records list task) (at.is.older ++ v ∷ []) v all
      (Contains-append_right at.is.older (v ∷ []) v (0, omega arith, refl)) in
      let last = arming_of at.index at.is.number at.earlier at.is.last in
      let same = same_arming (record { setter = last.setter; word = last.word }) (record { setter = task; word = arm.watch_word }) (sym last.last ∙ at.is.armed) in
      let stands : SomeRecord (IsArming at.index at.is.number task arm.watch_word) records =
      subst (λ (r : List Record). SomeRecord (IsArming at.index at.is.number task arm.watch_word) r) (sym at.split)
      (stands_later (IsArming at.index at.is.number task arm.watch_word) at.later at.earlier
      (subst (λ (a : Arming). SomeRecord (IsArming at.index at.is.number a.setter a.word) at.earlier) same last.stands)) in
      let watch = arming.watch_of run records list rules watches task at.index at.is.number arm.watch_word v verdict_at at.is.on stands in
      let goes = progress_of v watch.watch in
      record {
        at = at;
        verdict_at = verdict_at;
        watch = watch;
        stands = stands;
        begun = ended.begun_in run records list each stamps few first v.access goes.0 goes.1;
        among = hits.among run records list each stamps few first accesses are below over room masks v.access goes.0 goes.1;
      }

  -- its access is the setter
  record SetBelow (n : ℕ) (arm : Arm) : Type 0 where
    setter : access.Access
    low : setter.task < n
    limits : access.IsInLimits setter
    is : arm.setter ≡ ticket_number setter

  set_below : (task : ℕ) (before : List Arm) (arm : Arm) → Known task before arm → SetBelow (suc task) arm
  set_below task before arm k = record {
    setter = k.at.is.verdict.access;
    low = let mine : k.at.is.verdict.access.task ≡ task = k.watch.mine in omega (arith, mine);
    limits = (fit k.at.is.verdict.access k.begun).limits;
    is = k.at.is.setter;
  }

  below_more : (n : ℕ) (arm : Arm) → SetBelow n arm → SetBelow (suc n) arm
  below_more n arm h = record { setter = h.setter; low = let low : h.setter.task < n = h.low in omega (arith, low); limits = h.limits; is = h.is }

  own_set : (n : ℕ) (own before rest : List Arm) → AreArmsOf list n own → own ≡ before ++ rest → All (SetBelow (suc n)) rest
  own_set n own before [] are_own is = All-nil (SetBelow (suc n))
  own_set n own before (arm ∷ rest) are_own is =
      All-cons (SetBelow (suc n)) arm rest
      (set_below n before arm (known n before arm (arming.arm_at run records list rules watches [] records n own before rest arm refl are_own is)))
      (own_set n own (before ++ arm ∷ []) rest are_own (is ∙ sym (append_assoc before (arm ∷ []) rest)))

  all_set : (n : ℕ) (arms : List Arm) → ByTask (AreArmsOf list) n arms → All (SetBelow n) arms
  all_set zero arms h = subst (All (SetBelow zero)) (sym h) (All-nil (SetBelow zero))
  all_set (suc n) arms h =
      subst (All (SetBelow (suc n))) (sym h.2)
      (All-append (SetBelow (suc n)) h.0 h.1 (λ k d low. below_more n (slice_index_or h.0 k d) (all_set n h.0 h.3 k d low)) (own_set n h.1 [] h.1 h.4 refl))

  -- where an arming stands among its task's own
  record InTask (earlier : List Arm) (arm : Arm) : Type 0 where
    task : ℕ
    low : task < length run.program.tasks
    prior : List Arm
    before : List Arm
    split : earlier ≡ prior ++ before
    others : All (SetBelow task) prior
    knows : Known task before arm

  in_task : (n : ℕ) (arms earlier later : List Arm) (arm : Arm) → n ≤ length run.program.tasks → ByTask (AreArmsOf list) n arms → arms ≡ earlier ++ arm ∷ later → InTask earlier arm
  in_task zero arms earlier later arm most h is =
      let long : 0 ≡ length (earlier ++ arm ∷ later) = ap (λ (l : List Arm). length l) (sym h ∙ is) in
      absurd (omega (arith, long, length-append earlier (arm ∷ later)))
  in_task (suc n) arms earlier later arm most h is = elim (split_of h.0 h.1 earlier later arm (sym h.2 ∙ is)) [
    | inl here ↦ in_task n h.0 earlier here.0 arm (omega (arith, most)) h.3 here.1
    | inr there ↦ record {
      task = n;
      low = omega (arith, most);
      prior = h.0;
      before = there.0;
      split = there.1;
      others = all_set n h.0 h.3;
      knows = known n there.0 arm (arming.arm_at run records list rules watches [] records n h.1 there.0 later arm refl h.4 there.2);
    }
  ]

  -- an access that isn't scoped arms once
  once : (task : ℕ) (before : List Arm) (arm : Arm) → task < length run.program.tasks → (k : Known task before arm)
      → (b : Bool) → is_scoped k.at.is.verdict.access.kind ≡ b → (arm.number ≡ 0) ⊎ IsTrue (is_assertion k.at.is.verdict.access.kind)
  once task before arm low k true is = inr (scoped_asserts k.at.is.verdict.access.kind is)
  once task before arm low k false is =
      let v : OutcomeAt = k.at.is.verdict in
      let n : ℕ = arm.setter in
      let verdicts : List OutcomeAt = verdicts_by list task k.at.after in
      let own = own_verdicts k.at.later_after k.at.after task (before ++ arm ∷ []) k.at.split_after k.at.with_it in
      let plain : All (λ (c : OutcomeAt). ticket_number c.access ≡ n → is_scoped c.access.kind ≡ false) verdicts =
      λ i d small same.
      let at = arming.verdicts_from run records list k.at.later_after k.at.after task k.at.split_after i d small in
      let c : OutcomeAt = slice_index_or verdicts i d in
      let w = All-contains (IfVerdict list) (outcomes_of list) c watches at.told at.is in
      let tickets : ticket_number c.access ≡ ticket_number v.access = same ∙ k.at.is.setter in
      let one : fin.get run.sites (ticket_number v.access) ≡ Some c.access = (list.sites (ticket_number v.access) c.access).1 (sym tickets, w.access_is) in
      let other : fin.get run.sites (ticket_number v.access) ≡ Some v.access = (list.sites (ticket_number v.access) v.access).1 (refl, k.watch.watch.access_is) in
      let both_some : Some c.access ≡ Some v.access = sym one ∙ other in
      let equal : c.access ≡ v.access = cc in
      ap (λ (a : access.Access). is_scoped a.kind) equal ∙ is in
      let at_most = one_verdict run records list n task k.at.later_after k.at.after k.at.split_after (room task low) in
      let tickets = count_tickets n verdicts plain in
      let listed : count_by (λ m. m == n) (map (λ (c : OutcomeAt). ticket_number c.access) verdicts)
      ≡ count_by (λ m. m == n) (map (λ (b : Arm). b.setter) (before ++ arm ∷ [])) + count_by (λ m. m == n) own.0 =
      ap (λ (l : List ℕ). count_by (λ m. m == n) l) own.1 ∙ counts_both (λ m. m == n) (map (λ (b : Arm). b.setter) (before ++ arm ∷ [])) own.0 in
      let setters : count_by (λ m. m == n) (map (λ (b : Arm). b.setter) (before ++ arm ∷ [])) ≡ count_by (λ (b : Arm). b.setter == n) (before ++ arm ∷ []) =
      count_setters n (before ++ arm ∷ []) in
      let parts : count_by (λ (b : Arm). b.setter == n) (before ++ arm ∷ []) ≡ count_by (λ (b : Arm). b.setter == n) before + count_by (λ (b : Arm). b.setter == n) (arm ∷ []) =
      counts_both (λ (b : Arm). b.setter == n) before (arm ∷ []) in
      let w : ◌≡◌ {A = ℕ} (if arm.setter == n then 1 else 0) 1 = rw (eq-eqb arm.setter n refl) refl in
      let last = counts (λ (b : Arm). b.setter == n) arm [] in
      let repeats = k.at.is.repeats in
      inl (omega (arith, at_most, tickets, listed, setters, parts, w, last, repeats))

  -- ---- each arming

  pub arm_fits : (arms earlier later : List Arm) (arm : Arm) → AreArms list arms → arms ≡ earlier ++ arm ∷ later → ArmFits run.rules.slots run.rules.layout accesses earlier arm
  arm_fits arms earlier later arm are_arms is =
      let it = in_task (length run.program.tasks) arms earlier later arm (omega arith) are_arms is in
      let k = it.knows in
      let v : OutcomeAt = k.at.is.verdict in
      let a : access.Access = v.access in
      let s : Among a = k.among in
      let may = All-contains (IfWatched list) (outcomes_of list) v watched k.verdict_at.told k.verdict_at.is in
      let word : arm.watch_word ≡ word_of run.rules.layout a =
      (one_arming k.at.index k.at.is.number it.task arm.watch_word it.task (word_of run.rules.layout a) records k.stands k.watch.stands).1 in
      let of_word : WordOf run.rules.layout a arm.watch_word = record { encodable = may.encodable; is = word } in
      let said = read_back run.rules.layout a arm.watch_word of_word in
      let limit = span_limit run.rules.layout in
      let low = said.is_watch_word.below in
      let v_limits = (fit a k.begun).limits in
      let v_site = v_limits.site in
      let v_rep = v_limits.rep in
      let mine : a.task ≡ it.task = k.watch.mine in
      let setter : arm.setter ≡ ticket_number a = k.at.is.setter in
      let differ : All (λ (b : Arm). b.setter ≢ arm.setter) it.prior =
      λ i d small same.
      let b = it.others i d small in
      let b_low : b.setter.task < it.task = b.low in
      let b_limits = b.limits in
      let b_site = b_limits.site in
      let b_rep = b_limits.rep in
      let b_is = b.is in
      omega (arith, b_low, b_site, b_rep, b_is, same, setter, mine, v_site, v_rep) in
      let number : arm.number ≡ count_by (λ (b : Arm). b.setter == arm.setter) earlier =
      let repeats = k.at.is.repeats in
      let parts : count_by (λ (b : Arm). b.setter == arm.setter) earlier
      ≡ count_by (λ (b : Arm). b.setter == arm.setter) it.prior + count_by (λ (b : Arm). b.setter == arm.setter) it.before =
      ap (λ (l : List Arm). count_by (λ (b : Arm). b.setter == arm.setter) l) it.split ∙ counts_both (λ (b : Arm). b.setter == arm.setter) it.prior it.before in
      omega (arith, repeats, parts, count_none arm.setter it.prior differ) in
      let indexed : IsIndexOf run.rules.slots a.addr arm.index = subst (λ (n : ℕ). IsIndexOf run.rules.slots a.addr n) (sym k.at.is.index_is) k.watch.index_of in
      let stands_a : SomeRecord (IsArming k.at.index k.at.is.number a.task arm.watch_word) records =
      subst (λ (t : ℕ). SomeRecord (IsArming k.at.index k.at.is.number t arm.watch_word) records) (sym mine) k.stands in
      record {
        number = number;
        watch_word = omega (arith, low, limit);
        setter = record {
          access = s.stamped;
          named = hits.named_so run records list each stamps few first accesses are below over room masks a s arm.setter setter;
          holds = (
            record {
              unmarked = hits.unmarked_so run records list each stamps few first accesses are below over room masks a s may.unmarked;
              heard = hits.heard_so run records list each stamps few first accesses are below over room masks a s may.heard;
              word_is = subst (λ (x : access.Access). WordOf run.rules.layout x arm.watch_word) (sym s.is) of_word;
              index_of_setter = subst (λ (x : access.Access). IsIndexOf run.rules.slots x.addr arm.index) (sym s.is) indexed;
              once = subst (λ (x : access.Access). (arm.number ≡ 0) ⊎ IsTrue (is_assertion x.kind)) (sym s.is) (once it.task it.before arm it.low k (is_scoped a.kind) refl);
            },
            hits.became_fits run records list each stamps few first accesses are below over room masks met_once told v k.at.index k.at.is.number arm s k.at.is.on
                (λ answers_it. All-contains (IfAnswersBoth list) (outcomes_of list) v both k.verdict_at.told answers_it) k.at.is.index_is stands_a v.outcome refl k.at.is.became,
          );
        };
      }

  pub takes_fit : (arms : List Arm) (takes : List Take) → AreArms list arms → 3 ≤ run.rules.slots → AreOneBag is_take (hits_in arms) takes
      → All (TakeFits run.rules.slots accesses) takes
  takes_fit arms takes are_arms some bag = λ i d small.
      let t : Take = slice_index_or takes i d in
      let here : is_take t t ≡ true = rw (eq-eqb t.finder t.finder refl, eq-eqb t.index t.index refl, eq-eqb t.setter t.setter refl) refl in
      let hit = hit_of t arms (let c = count_contains (is_take t) takes i d small here in omega (arith, c, bag t)) in
      let fits = arm_fits arms hit.earlier hit.later hit.arm are_arms hit.split in
      let s = fits.setter in
      let outcome : OutcomeFits run.rules.slots run.rules.layout accesses hit.arm s.access (became.Hit hit.finder hit.result) =
      subst (λ (o : ArmOutcome). OutcomeFits run.rules.slots run.rules.layout accesses hit.arm s.access o) hit.is s.holds.1 in
      record {
        index = subst (λ (n : ℕ). n ≤ run.rules.slots + 1) (sym hit.index_is) (index_within run.rules.slots s.access.access.addr hit.arm.index some s.holds.0.index_of_setter);
        finder = subst (λ (n : ℕ). OfNamed accesses n (λ f. Unit {0})) (sym hit.finder_is) (record { access = outcome.access; named = outcome.named; holds = tt });
        setter = subst (λ (n : ℕ). OfNamed accesses n (λ f. Unit {0})) (sym hit.setter_is) (record { access = s.access; named = s.named; holds = tt });
      }
