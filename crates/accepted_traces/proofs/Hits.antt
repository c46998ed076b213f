-- What became of an arming may have: the finder of a hit could take it.
use Rattle.std.proofs.Common.{◌≡◌, ◌≢◌, ◌↔◌, ◌<◌, ◌≤◌, ◌^◌, ◌∙◌, ◌++◌, ◌∷◌, [], inl, inr, ℕ, suc, zero, All, AllPairs, Contains, IsNone, IsSome, IsTrue, List}
use Rattle.std.proofs.Common.{None, Option, Some, ap, arith, Bool, false, length, refl, subst, sym, true}
use Rattle.std.proofs.lemmas.Bool.{ne_eqb}
use Rattle.std.proofs.lemmas.Bool.Decides.{leb_tells}
use Rattle.std.proofs.lemmas.List.Elements.{All-contains}
use Rattle.access_types.specs.Access as access
use Rattle.access_types.specs.Access.{Overlap, proper_mask}
use Rattle.access_types.specs.Arms.{Arm}
use Rattle.access_types.specs.History.{InProgress, beginning, ending}
use Rattle.access_types.specs.Kind.{is_assertion}
use Rattle.access_types.specs.Marked.{CountedAsMarked, Silenced}
use Rattle.access_types.specs.Stamped.{Stamped}
use Rattle.access_types.specs.Ticket.{ticket_number}
use Rattle.access_types.specs.declared.arms.ArmOutcome.{ArmOutcome}
use Rattle.access_types.specs.declared.arms.HitResult.{HitResult}
use Rattle.access_types.specs.declared.arms.HitResult.TheVariants as results
use Rattle.litmus_semantics.specs.RunOfProgram.{setting_of}
use Rattle.litmus_semantics.specs.TextSites.{FitsTickets, block_sites}
use Rattle.report_text.specs.Truth.{IsIndexOf, ResultAgrees}
use Rattle.executions.specs.execution.Answers.{AnswersTaking, is_answer}
use Rattle.executions.specs.execution.Run.{Run, task_of, task_setting}
use Rattle.executions.specs.execution.Execution.{Execution}
use Rattle.executions.specs.execution.Observed.{Armed, OutcomeAt, history_of, outcomes_of}
use Rattle.executions.proofs.execution.Intervals.{Has, contains_has}
use Rattle.executions.proofs.execution.OwnLasts.{one_arming, stands_later, still_told}
use Rattle.log_correctness.specs.Lists.{AreAccesses, Became, IsHit}
use Rattle.soundness.specs.Events.{AreMarks, EachDoesItsEvent}
use Rattle.soundness.specs.Joined.{AnswersBoth}
use Rattle.soundness.proofs.Makers.{finds_hit}
use Rattle.setup_access.specs.Hits.{Hits}
use Rattle.setup_access.specs.Setting as checks
use Rattle.setup_access.specs.Setting.{look_order, slot_of}
use Rattle.setup_access.specs.Verdicts as verdicts
use Rattle.setup_access.specs.Verdicts.{ChangeOf, HitOutcome}
use Rattle.setup_access.specs.declared.outcome.Outcome.{Outcome}
use Rattle.setup_access.specs.declared.outcome.Outcome.TheVariants as outcomes
use Rattle.slot.specs.Pair.{Halves}
use Rattle.slot_table.specs.Hearings.{IsArming, SomeRecord}
use Rattle.slot_table.specs.Meetings.{Meeting, finders_told, numbers_met}
use Rattle.slot_table.specs.declared.records.Record.{Record}
use Rattle.slot_table.specs.declared.step.Answer.TheVariants as answers
use Rattle.slot_table.specs.declared.step.Step.TheVariants as steps
use Rattle.task_log.specs.Noted.{dropped}
use Rattle.value_filter.specs.Verdict as table
use Rattle.value_filter.specs.Verdict.{MattersUnchanged, VerdictOf}
use Rattle.value_filter.specs.declared.verdict.Change.{Change}
use Rattle.value_filter.specs.declared.verdict.Change.TheVariants.{Maybe, Ruled}
use Rattle.value_filter.specs.declared.verdict.Reason.{Reason}
use Rattle.value_filter.specs.declared.verdict.Reason.TheVariants.{Encoding, MaskedBits, SameValue}
use Rattle.value_filter.specs.declared.verdict.Verdict.TheVariants as verdict
use Rattle.log_correctness.specs.Stamps.{stamps_in}
use Rattle.log_correctness.specs.Watched.{IfTold}
use Rattle.program_order.specs.Standing.{checks_of}
use Rattle.program_order.specs.TaskObserved.{did_by}
use Rattle.accepted_traces.specs.Parts.{IsNamed, OutcomeFits}
use Rattle.accepted_traces.proofs.Ended as ended
use Rattle.accepted_traces.proofs.Watches.{found_at, looked_index}

-- ---- what the values say

none_mask : (mask : Option ℕ) → IsNone mask → proper_mask mask ≡ None
none_mask None is = refl
none_mask (Some mask) is = absurd (let no : true ≡ false = is in cc)

some_mask : (mask : Option ℕ) → mask ≢ Some 0 → IsSome mask → IsSome (proper_mask mask)
some_mask None not is = is
some_mask (Some zero) not is = absurd (not refl)
some_mask (Some (suc n)) not is = rw (ne_eqb (suc n) 0 (λ e. omega (arith, e))) refl

maybe_mask : (a : access.Access) (values : Option (ℕ × ℕ)) (change : Change) → ChangeOf a values change → change ≡ Maybe → IsNone a.mask
maybe_mask a values change (verdicts.seen s c) is = absurd cc
maybe_mask a values change (verdicts.ruled s m c) is = absurd cc
maybe_mask a values change (verdicts.maybe s m c) is = m

ruled_mask : (a : access.Access) (values : Option (ℕ × ℕ)) (change : Change) → ChangeOf a values change → change ≡ Ruled → IsSome a.mask
ruled_mask a values change (verdicts.seen s c) is = absurd cc
ruled_mask a values change (verdicts.ruled s m c) is = m
ruled_mask a values change (verdicts.maybe s m c) is = absurd cc

same_verdict : (a : access.Access) (change : Change) (only : Bool) → VerdictOf a true change only (verdict.Drop SameValue) → (change ≡ Maybe) × (¬ MattersUnchanged a)
same_verdict a change only (table.taken_seen t c v) = absurd cc
same_verdict a change only (table.taken_ruled t c v) = absurd cc
same_verdict a change only (table.taken_unseen t c m v) = absurd cc
same_verdict a change only (table.taken_same t c m o v) = (c, m)
same_verdict a change only (table.taken_any t c m o v) = absurd cc
same_verdict a change only (table.untaken_seen t c v) = absurd cc
same_verdict a change only (table.untaken t c v) = absurd cc

masked_verdict : (a : access.Access) (change : Change) (only : Bool) → VerdictOf a true change only (verdict.Drop MaskedBits) → change ≡ Ruled
masked_verdict a change only (table.taken_seen t c v) = absurd cc
masked_verdict a change only (table.taken_ruled t c v) = c
masked_verdict a change only (table.taken_unseen t c m v) = absurd cc
masked_verdict a change only (table.taken_same t c m o v) = absurd cc
masked_verdict a change only (table.taken_any t c m o v) = absurd cc
masked_verdict a change only (table.untaken_seen t c v) = absurd cc
masked_verdict a change only (table.untaken t c v) = absurd cc

-- a hit that was dropped for its value is of an access of 8 bytes at most, with no mask, that asserts nothing
dropped_same : (s : checks.Setting) (a : access.Access) (values : Option (ℕ × ℕ)) (both : Halves) (outcome : Outcome) → HitOutcome s a values both outcome
    → outcome ≡ outcomes.Dropped SameValue → IsNone a.mask × (¬ MattersUnchanged a)
dropped_same s a values both outcome (verdicts.encoding apart o) is = absurd cc
dropped_same s a values both outcome (verdicts.reported change shares c v o) is = absurd cc
dropped_same s a values both outcome (verdicts.dropped change reason shares c v o) is =
    let same : reason ≡ SameValue = cc in
    let it = same_verdict a change s.rules.value_change_only (subst (λ (r : Reason). VerdictOf a true change s.rules.value_change_only (verdict.Drop r)) same v) in
    (maybe_mask a values change c it.0, it.1)

dropped_masked : (s : checks.Setting) (a : access.Access) (values : Option (ℕ × ℕ)) (both : Halves) (outcome : Outcome) → HitOutcome s a values both outcome
    → outcome ≡ outcomes.Dropped MaskedBits → IsSome a.mask
dropped_masked s a values both outcome (verdicts.encoding apart o) is = absurd cc
dropped_masked s a values both outcome (verdicts.reported change shares c v o) is = absurd cc
dropped_masked s a values both outcome (verdicts.dropped change reason shares c v o) is =
    let same : reason ≡ MaskedBits = cc in
    ruled_mask a values change c (masked_verdict a change s.rules.value_change_only (subst (λ (r : Reason). VerdictOf a true change s.rules.value_change_only (verdict.Drop r)) same v))

-- the result of an answer
abbrev pub result_of : Outcome → HitResult
result_of (outcomes.Dropped reason) = dropped reason
result_of outcome = results.Report

module _ (s : checks.Setting) (a b : access.Access) (values : Option (ℕ × ℕ)) (both : Halves) (mask : a.mask ≢ Some 0) where
  abbrev Agrees : Outcome → Type 0
  Agrees outcome = (one other : Stamped) → one.access ≡ a → other.access ≡ b → ResultAgrees one other (result_of outcome)

  apart_at : (one other : Stamped) → one.access ≡ a → other.access ≡ b → ¬ Overlap a b → ¬ Overlap one.access other.access
  apart_at one other p q none = subst (λ x. ¬ Overlap x other.access) (sym p) (subst (λ y. ¬ Overlap a y) (sym q) none)

  apart_back : (one other : Stamped) → one.access ≡ a → other.access ≡ b → ¬ Overlap one.access other.access → ¬ Overlap a b
  apart_back one other p q none = subst (λ x. ¬ Overlap x b) p (subst (λ y. ¬ Overlap one.access y) q none)

  agrees : (outcome : Outcome) → IsTrue (is_answer outcome) → HitOutcome s a values both outcome → (outcome ≡ outcomes.Dropped Encoding) ↔ (¬ Overlap a b) → Agrees outcome
  agrees outcomes.Nothing is h e = absurd (let no : false ≡ true = is in cc)
  agrees outcomes.Unencodable is h e = absurd (let no : false ≡ true = is in cc)
  agrees outcomes.Capacity is h e = absurd (let no : false ≡ true = is in cc)
  agrees outcomes.Lost is h e = absurd (let no : false ≡ true = is in cc)
  agrees outcomes.Quiet is h e = absurd (let no : false ≡ true = is in cc)
  agrees (outcomes.Told pair) is h e = absurd (let no : false ≡ true = is in cc)
  agrees (outcomes.Unknown old new) is h e = absurd (let no : false ≡ true = is in cc)
  agrees (outcomes.Report pair seen) is h e = λ one other p q. record {
    encoding = (λ no. absurd cc, λ none. let no = e.1 (apart_back one other p q none) in absurd cc);
    same_mask = λ no. absurd cc;
    same_kind = λ no. absurd cc;
    same_size = λ no. absurd cc;
    masked = λ no. absurd cc;
  }
  agrees (outcomes.Dropped Encoding) is h e = λ one other p q. record {
    encoding = (λ yes. apart_at one other p q (e.0 refl), λ none. refl);
    same_mask = λ no. absurd cc;
    same_kind = λ no. absurd cc;
    same_size = λ no. absurd cc;
    masked = λ no. absurd cc;
  }
  agrees (outcomes.Dropped SameValue) is h e = λ one other p q.
      let it = dropped_same s a values both (outcomes.Dropped SameValue) h refl in
      record {
        encoding = (λ no. absurd cc, λ none. let no = e.1 (apart_back one other p q none) in absurd cc);
        same_mask = λ yes. none_mask one.access.mask (subst (λ (x : access.Access). IsNone x.mask) (sym p) it.0);
        same_kind = λ yes asserts. it.1 (inr (subst (λ (x : access.Access). IsTrue (is_assertion x.kind)) p asserts));
        same_size = λ yes. subst (λ (x : access.Access). x.size ≤ 8) (sym p) (small it.1);
        masked = λ no. absurd cc;
      }
    where
      small : (¬ MattersUnchanged a) → a.size ≤ 8
      small not = elim (leb_tells a.size 8) [ inl low ↦ low.1 | inr high ↦ absurd (not (inl high.1)) ]
  agrees (outcomes.Dropped MaskedBits) is h e = λ one other p q. record {
    encoding = (λ no. absurd cc, λ none. let no = e.1 (apart_back one other p q none) in absurd cc);
    same_mask = λ no. absurd cc;
    same_kind = λ no. absurd cc;
    same_size = λ no. absurd cc;
    masked = λ yes. subst (λ (x : access.Access). IsSome (proper_mask x.mask)) (sym p)
        (some_mask a.mask mask (dropped_masked s a values both (outcomes.Dropped MaskedBits) h refl));
  }

-- ---- meetings

where_met : (xs : List Meeting) (m : Meeting) (d : ℕ) → Has xs m → Contains (numbers_met xs) m.number
where_met [] m d h = absurd h
where_met (x ∷ xs) m d h = elim h [
  | inl here ↦ (0, omega arith, ap (λ (y : Meeting). y.number) here)
  | inr more ↦ let it = where_met xs m d more in
      (suc it.0, (let below : it.0 < length (numbers_met xs) = it.1 in omega (arith, below)), it.2)
]

one_met : (xs : List Meeting) → AllPairs (λ p q. p ≢ q) (numbers_met xs) → (m n : Meeting) → Has xs m → Has xs n → m.number ≡ n.number → m ≡ n
one_met [] differ m n h g same = absurd h
one_met (x ∷ xs) differ m n h g same = elim h [
  | inl here ↦ elim g [
    | inl too ↦ sym here ∙ too
    | inr more ↦
        let at = where_met xs n 0 more in
        absurd (differ 0 (suc at.0) n.number (omega arith) (let below : at.0 < length (numbers_met xs) = at.1 in omega (arith, below))
        (ap (λ (y : Meeting). y.number) here ∙ (same ∙ sym at.2)))
  ]
  | inr before ↦ elim g [
    | inl too ↦
        let at = where_met xs m 0 before in
        absurd (differ 0 (suc at.0) m.number (omega arith) (let below : at.0 < length (numbers_met xs) = at.1 in omega (arith, below))
        (ap (λ (y : Meeting). y.number) too ∙ (sym same ∙ sym at.2)))
    | inr more ↦ one_met xs (λ i j d below fits. differ (suc i) (suc j) d (omega (arith, below)) (omega (arith, fits))) m n before more same
  ]
]

same_armed : (p q : Armed) → ◌≡◌ {A = Option Armed} (Some p) (Some q) → p ≡ q
same_armed p q e = cc

-- ---- an execution whose tasks have ended

module _ (run : Run) (records : List Record) (list : Execution run records) (each : EachDoesItsEvent list records)
    (stamps : (later earlier : List Record) (latest : Record) → records ≡ later ++ latest ∷ earlier → latest.step ≡ steps.Clock
    → latest.answer ≡ answers.Word (stamps_in earlier)) (few : stamps_in records < 2 ^ 64)
    (first : (task : ℕ) → AreMarks (did_by (list.tasks task) 0))
    (accesses : List Stamped) (are : AreAccesses list accesses)
    (below : (a : access.Access) → Contains (history_of list) (beginning a) → a.task < length run.program.tasks)
    (over : (a : access.Access) → Contains (history_of list) (beginning a) → Contains (history_of list) (ending a))
    (room : (task : ℕ) → task < length run.program.tasks → FitsTickets (block_sites (setting_of run.program run.places task) (task_of run task).body))
    (masks : (a : access.Access) → Contains (history_of list) (beginning a) → a.mask ≢ Some 0) where
  abbrev pub Among : access.Access → Type 0
  Among a = ended.IsAmong run records list each stamps few first accesses are below over a

  pub among : (a : access.Access) (moment : ℕ) → InProgress (history_of list) a moment → Among a
  among a moment goes = ended.among run records list each stamps few first accesses are below over a
      (ended.begun_in run records list each stamps few first a moment goes)

  pub unmarked_so : (a : access.Access) (it : Among a) → ¬ CountedAsMarked run.rules.plain_writes_atomic (history_of list) a → ¬ IsTrue it.stamped.marked
  unmarked_so a it none h = none (subst (λ x. CountedAsMarked run.rules.plain_writes_atomic (history_of list) x) it.is (it.so.0.0 h))

  pub heard_so : (a : access.Access) (it : Among a) → ¬ Silenced (history_of list) a → ¬ IsTrue it.stamped.silenced
  heard_so a it none h = none (subst (λ x. Silenced (history_of list) x) it.is (it.so.1.0 h))

  pub named_so : (a : access.Access) (it : Among a) (ticket : ℕ) → ticket ≡ ticket_number a → IsNamed accesses ticket it.stamped
  named_so a it ticket is = record { stands = it.stands; ticket_is = ap (λ (x : access.Access). ticket_number x) it.is ∙ sym is }

  module _ (met_once : AllPairs (λ p q. p ≢ q) (numbers_met (finders_told records))) (told : All (IfTold list) (outcomes_of list)) where
    -- the finder of an answered arming
    hit_fits : (came : OutcomeAt) (index number : ℕ) (arm : Arm) (s : Among came.access) → came.arming ≡ Some (record { index = index; number = number })
        → AnswersBoth list came → IsTrue (is_answer came.outcome) → arm.index ≡ index → SomeRecord (IsArming index number came.access.task arm.watch_word) records
        → IsHit records index number arm.setter (result_of came.outcome) arm.outcome
        → OutcomeFits run.rules.slots run.rules.layout accesses arm s.stamped arm.outcome
    hit_fits came index number arm s on both answers_it index_is armed hit =
        let answer : AnswersTaking list came = both.answer in
        let find = both.finder.find in
        let telling : OutcomeAt = both.finder.telling in
        let f0 : access.Access = answer.finder in
        let same : ◌≡◌ {A = Armed} (record { index = answer.index; number = answer.number }) (record { index = index; number = number }) =
        same_armed _ _ (sym answer.armed ∙ on) in
        let same_index : answer.index ≡ index = ap (λ (x : Armed). x.index) same in
        let same_number : answer.number ≡ number = ap (λ (x : Armed). x.number) same in
        let f : Among f0 = among f0 both.moment both.finder_goes in
        let told_there : Has (finders_told records) (record { index = answer.index; number = answer.number; setter = answer.pair.setter; finder = answer.pair.finder }) =
        subst (λ (r : List Record). Has (finders_told r) (record { index = answer.index; number = answer.number; setter = answer.pair.setter; finder = answer.pair.finder })) (sym answer.split)
        (contains_has _ _ (still_told answer.later answer.by_then _ answer.told)) in
        let met = one_met (finders_told records) met_once _ _ (contains_has _ _ hit.told) told_there (sym same_number) in
        let ticket : hit.finder ≡ ticket_number f0 = ap (λ (m : Meeting). m.finder) met ∙ answer.finder_named in
        let setting : checks.Setting = checks_of (task_setting run telling.access.task) in
        let hits : Hits run.rules.layout telling.access find.word =
        finds_hit setting telling.access (look_order (slot_of setting telling.access)) find.find (record { index = find.index; word = find.word }) find.is_find.looked find.is_find.looks in
        let looked : IsIndexOf run.rules.slots telling.access.addr find.index =
        looked_index setting telling.access find.index
        (found_at setting telling.access (look_order (slot_of setting telling.access)) find.find (record { index = find.index; word = find.word }) find.is_find.looked find.is_find.looks) in
        let finds_index : find.index ≡ index = both.finder.index ∙ same_index in
        let finds_number : find.number ≡ number = both.finder.number ∙ same_number in
        let arming : SomeRecord (IsArming index number find.setter find.word) records =
        subst (λ (n : ℕ). SomeRecord (IsArming n number find.setter find.word) records) finds_index
        (subst (λ (n : ℕ). SomeRecord (IsArming find.index n find.setter find.word) records) finds_number
        (subst (λ (r : List Record). SomeRecord (IsArming find.index find.number find.setter find.word) r) (sym find.split)
        (stands_later (IsArming find.index find.number find.setter find.word) find.later find.by_then find.met.arming))) in
        let word : find.word ≡ arm.watch_word = (one_arming index number find.setter find.word came.access.task arm.watch_word records arming armed).1 in
        let to_f : telling.access ≡ f.stamped.access = both.finder.access ∙ sym f.is in
        let hits_f : Hits run.rules.layout f.stamped.access arm.watch_word =
        subst (λ (x : access.Access). Hits run.rules.layout x arm.watch_word) to_f (subst (λ (w : ℕ). Hits run.rules.layout telling.access w) word hits) in
        let looked_f : IsIndexOf run.rules.slots f.stamped.access.addr arm.index =
        subst (λ (x : access.Access). IsIndexOf run.rules.slots x.addr arm.index) to_f
        (subst (λ (n : ℕ). IsIndexOf run.rules.slots telling.access.addr n) (finds_index ∙ sym index_is) looked) in
        let unmasked : IsNone f.stamped.access.mask = subst (λ (x : access.Access). IsNone x.mask) to_f find.is_find.unmasked in
        let heard : ¬ Silenced (history_of list) f0 =
        subst (λ (x : access.Access). ¬ Silenced (history_of list) x) both.finder.access
        (All-contains (IfTold list) (outcomes_of list) telling told both.finder.told answer.pair both.finder.is) in
        let begun = ended.begun_in run records list each stamps few first came.access both.moment both.setter_goes in
        let begun_f = ended.begun_in run records list each stamps few first f0 both.moment both.finder_goes in
        let result = agrees (checks_of (task_setting run came.access.task)) came.access f0 answer.values answer.pair (masks came.access begun)
        came.outcome answers_it answer.verdict answer.encoding s.stamped f.stamped s.is f.is in
        subst (λ (o : ArmOutcome). OutcomeFits run.rules.slots run.rules.layout accesses arm s.stamped o) (sym hit.is) (record {
          access = f.stamped;
          named = named_so f0 f hit.finder ticket;
          holds = record {
            tasks = λ equal. answer.met.two (ap (λ (x : access.Access). x.task) (sym f.is) ∙ (sym equal ∙ ap (λ (x : access.Access). x.task) s.is));
            heard = heard_so f0 f heard;
            unmasked = none_mask f.stamped.access.mask unmasked;
            index_of_finder = looked_f;
            breaks = hits_f.breaks;
            meets = hits_f.meets;
            at_once = ended.at_once run records list each stamps few first room came.access.task f0.task s.stamped f.stamped both.moment
                (below came.access begun) (below f0 begun_f) s.span f.span
                (subst (λ (x : access.Access). InProgress (history_of list) x both.moment) (sym s.is) both.setter_goes)
                (subst (λ (x : access.Access). InProgress (history_of list) x both.moment) (sym f.is) both.finder_goes);
            result_agrees = result;
          };
        })

    pub became_fits : (came : OutcomeAt) (index number : ℕ) (arm : Arm) (s : Among came.access) → came.arming ≡ Some (record { index = index; number = number })
        → (IsTrue (is_answer came.outcome) → AnswersBoth list came) → arm.index ≡ index → SomeRecord (IsArming index number came.access.task arm.watch_word) records
        → (outcome : Outcome) → came.outcome ≡ outcome → Became records index number arm.setter outcome arm.outcome
        → OutcomeFits run.rules.slots run.rules.layout accesses arm s.stamped arm.outcome
    became_fits came index number arm s on both index_is armed outcomes.Quiet is h =
        subst (λ (o : ArmOutcome). OutcomeFits run.rules.slots run.rules.layout accesses arm s.stamped o) (sym h) tt
    became_fits came index number arm s on both index_is armed (outcomes.Unknown old new) is h =
        subst (λ (o : ArmOutcome). OutcomeFits run.rules.slots run.rules.layout accesses arm s.stamped o) (sym h) tt
    became_fits came index number arm s on both index_is armed (outcomes.Report pair seen) is h =
        let yes : IsTrue (is_answer came.outcome) = subst (λ (o : Outcome). IsTrue (is_answer o)) (sym is) refl in
        hit_fits came index number arm s on (both yes) yes index_is armed
        (subst (λ (o : Outcome). IsHit records index number arm.setter (result_of o) arm.outcome) (sym is) h)
    became_fits came index number arm s on both index_is armed (outcomes.Dropped reason) is h =
        let yes : IsTrue (is_answer came.outcome) = subst (λ (o : Outcome). IsTrue (is_answer o)) (sym is) refl in
        hit_fits came index number arm s on (both yes) yes index_is armed
        (subst (λ (o : Outcome). IsHit records index number arm.setter (result_of o) arm.outcome) (sym is) h)
    became_fits came index number arm s on both index_is armed outcomes.Nothing is h = absurd h
    became_fits came index number arm s on both index_is armed outcomes.Unencodable is h = absurd h
    became_fits came index number arm s on both index_is armed outcomes.Capacity is h = absurd h
    became_fits came index number arm s on both index_is armed outcomes.Lost is h = absurd h
    became_fits came index number arm s on both index_is armed (outcomes.Told pair) is h = absurd h
