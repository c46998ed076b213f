-- A taking whose two accesses have ended is in nobody's hand any more.
use Rattle.std.proofs.Common.{◌≡◌, ◌≢◌, ◌∙◌, ◌⊎◌, ◌<◌, ◌+◌, ◌∷◌, ◌++◌, [], inl, inr, ℕ, suc, Bool, true, false, Contains, List, Option, None, Some}
use Rattle.std.proofs.Common.{ap, append_assoc, arith, length, refl, subst, sym, take}
use Rattle.std.specs.Option.{option_map}
use Rattle.std.proofs.lemmas.Bool.{eq-eqb}
use Rattle.std.proofs.lemmas.Bool.Decides.{eqb_tells}
use Rattle.std.proofs.lemmas.List.{length-append}
use Rattle.access_types.specs.Access.{Access}
use Rattle.access_types.specs.History.{History, ending}
use Rattle.access_types.specs.declared.history.Happening.{Happening}
use Rattle.access_types.specs.declared.history.Happening.TheVariants as happenings
use Rattle.access_types.specs.declared.history.Moment.{Moment}
use Rattle.slot_table.specs.Armings.{Arming, MeetOnce, MeetsAnew, armed_after, finder_at, last_arming, last_arming_number, number_after, taken_after}
use Rattle.slot_table.specs.Discipline.{AllKeepDiscipline, Allows, HasPart, hand_after, in_hand}
use Rattle.slot_table.specs.Hearings.{IsArming, IsTaking, SomeRecord}
use Rattle.slot_table.specs.Records.{records_of}
use Rattle.slot_table.specs.Roles as roles
use Rattle.slot_table.specs.Roles.{part_of}
use Rattle.slot_table.specs.Words.{Words}
use Rattle.slot_table.specs.declared.discipline.InHand.{InHand}
use Rattle.slot_table.specs.declared.discipline.Part.{Part}
use Rattle.slot_table.specs.declared.discipline.Part.TheVariants as parts
use Rattle.slot_table.specs.declared.records.Record.{Record}
use Rattle.slot_table.specs.declared.step.Answer.{Answer}
use Rattle.slot_table.specs.declared.step.Answer.TheVariants as answers
use Rattle.slot_table.specs.declared.step.Step.{Step}
use Rattle.slot_table.specs.declared.step.Step.TheVariants.{CellExchange, CellLoad, Clear, Clock, Consume, Insert, Load, LockStore, LockTry, Name, PairLoad, Remove, Tell, TryConsume}
use Rattle.slot_table.proofs.Lists.{allowed_at, kept_before}
use Rattle.slot_table.proofs.Moves.{some_same}
use Rattle.slot_table.proofs.Steps.{here_part}
use Rattle.program_order.specs.Standing.{Setting}
use Rattle.program_order.specs.TaskObserved.{did_by, did_next}
use Rattle.executions.specs.execution.Run.{Run, task_setting}
use Rattle.executions.specs.execution.Execution.{Execution}
use Rattle.executions.specs.execution.Observed.{Armed, armed_in, history_by, history_of, made_by, moments_of}
use Rattle.executions.proofs.execution.Intervals.{Has, contains_has, has_contains, has_either}
use Rattle.executions.proofs.execution.OwnLasts.{last_below, own_latest}
use Rattle.soundness.specs.Events.{AreMarks, DoesEvent, EachDoesItsEvent, IsEvent, ReadsAtMost, Writes}
use Rattle.soundness.specs.Takings.{IsTakingOver}
use Rattle.soundness.specs.Ended.{HasEndedSince}
use Rattle.soundness.proofs.Origins.{told_front}

-- an arming at the index has a new number, and else the last one there stays
number_kinds : (index : ℕ) (step : Step) (answer : Answer) (k : ℕ) (last : Option ℕ)
    → (number_after index step answer k last ≡ last) ⊎ (number_after index step answer k last ≡ Some k)
number_kinds index (Insert at word) (answers.Flag true) k last = elim (eqb_tells at index) [
  | inl here ↦ inr (rw here.0 refl)
  | inr apart ↦ inl (rw apart.0 refl)
]
number_kinds index step answer k last = inl refl

-- one with an old number is no new one
old_number : (index : ℕ) (step : Step) (answer : Answer) (k n : ℕ) (last : Option ℕ) → n < k → number_after index step answer k last ≡ Some n → last ≡ Some n
old_number index step answer k n last below is = elim (number_kinds index step answer k last) [
  | inl kept ↦ sym kept ∙ is
  | inr anew ↦ let same : k ≡ n = some_same (sym anew ∙ is) in absurd (omega (arith, same, below))
]

-- which steps change who took the last arming at an index
taken_kinds : (index task : ℕ) (step : Step) (answer : Answer) (before : Option ℕ)
    → (taken_after index task step answer before ≡ before) ⊎ (((word : ℕ) × (step ≡ Insert index word) × (answer ≡ answers.Flag true))
    ⊎ ((word : ℕ) × (step ≡ TryConsume index word) × (answer ≡ answers.Flag true)))
taken_kinds index task (Insert at word) (answers.Flag true) before = elim (eqb_tells at index) [
  | inl here ↦ inr (inl (word, ap (λ (i : ℕ). Insert i word) here.1, refl))
  | inr apart ↦ inl (rw apart.0 refl)
]
taken_kinds index task (TryConsume at word) (answers.Flag true) before = elim (eqb_tells at index) [
  | inl here ↦ inr (inr (word, ap (λ (i : ℕ). TryConsume i word) here.1, refl))
  | inr apart ↦ inl (rw apart.0 refl)
]
taken_kinds index task step answer before = inl refl

inserts_now : (index word k : ℕ) (step : Step) (answer : Answer) (last : Option ℕ) → step ≡ Insert index word → answer ≡ answers.Flag true
    → number_after index step answer k last ≡ Some k
inserts_now index word k step answer last is accepted =
    let now : number_after index (Insert index word) (answers.Flag true) k last ≡ Some k = rw (eq-eqb index index refl) refl in
    ap (λ (st : Step). number_after index st answer k last) is ∙ (ap (λ (a : Answer). number_after index (Insert index word) a k last) accepted ∙ now)

meets_now : (index word : ℕ) (step : Step) (answer : Answer) (earlier : List Record) → step ≡ TryConsume index word → answer ≡ answers.Flag true
    → MeetsAnew step answer earlier → finder_at index earlier ≡ None
meets_now index word step answer earlier is accepted meets =
    let then_so : MeetsAnew (TryConsume index word) (answers.Flag true) earlier =
    subst (λ (a : Answer). MeetsAnew (TryConsume index word) a earlier) accepted (subst (λ (st : Step). MeetsAnew st answer earlier) is meets) in then_so.1

-- who took an arming is its finder as long as it is the last one at its index
finder_stays : (index n finder word : ℕ) (records : List Record) → MeetOnce records → SomeRecord (IsTaking index n finder word) records
    → last_arming_number index records ≡ Some n → finder_at index records ≡ Some finder
finder_stays index n finder word [] once taken last = absurd taken
finder_stays index n finder word (latest ∷ earlier) once (inl here) last =
    let now : taken_after index latest.task (TryConsume index word) (answers.Flag true) (finder_at index earlier) ≡ Some latest.task =
    rw (eq-eqb index index refl) refl in
    ap (λ (st : Step). taken_after index latest.task st latest.answer (finder_at index earlier)) here.step
    ∙ (ap (λ (a : Answer). taken_after index latest.task (TryConsume index word) a (finder_at index earlier)) here.answer ∙ (now ∙ ap Some here.task))
finder_stays index n finder word (latest ∷ earlier) once (inr before) last =
    let old : n < length earlier = taken_below earlier before in
    let still : last_arming_number index earlier ≡ Some n = old_number index latest.step latest.answer (length earlier) n (last_arming_number index earlier) old last in
    let found : finder_at index earlier ≡ Some finder = finder_stays index n finder word earlier once.0 before still in
    elim (taken_kinds index latest.task latest.step latest.answer (finder_at index earlier)) [
      | inl kept ↦ kept ∙ found
      | inr changed ↦ elim changed [
        | inl inserts ↦
            let anew = inserts_now index inserts.0 (length earlier) latest.step latest.answer (last_arming_number index earlier) inserts.1 inserts.2 in
            let same : length earlier ≡ n = some_same (sym anew ∙ last) in absurd (omega (arith, same, old))
        | inr takes ↦
            let none = meets_now index takes.0 latest.step latest.answer earlier takes.1 takes.2 once.1 in
            absurd (let never : None ≡ Some finder = sym none ∙ found in cc)
      ]
    ]
  where
    taken_below : (base : List Record) → SomeRecord (IsTaking index n finder word) base → n < length base
    taken_below [] h = absurd h
    taken_below (first ∷ base) (inl at) = let below : n < length base = last_below index n base at.last in omega (arith, below)
    taken_below (first ∷ base) (inr more) = let below : n < length base = taken_below base more in omega (arith, below)

armed_kinds : (index task : ℕ) (step : Step) (answer : Answer) (before : Option Arming)
    → (armed_after index task step answer before ≡ before) ⊎ ((word : ℕ) × (step ≡ Insert index word) × (answer ≡ answers.Flag true))
armed_kinds index task (Insert at word) (answers.Flag true) before = elim (eqb_tells at index) [
  | inl here ↦ inr (word, ap (λ (i : ℕ). Insert i word) here.1, refl)
  | inr apart ↦ inl (rw apart.0 refl)
]
armed_kinds index task step answer before = inl refl

arming_below : (index n setter word : ℕ) (records : List Record) → SomeRecord (IsArming index n setter word) records → n < length records
arming_below index n setter word [] h = absurd h
arming_below index n setter word (latest ∷ earlier) (inl here) = let is : length earlier ≡ n = here.counts in omega (arith, is)
arming_below index n setter word (latest ∷ earlier) (inr before) = let below = arming_below index n setter word earlier before in omega (arith, below)

-- who made it is its setter
arming_stays : (index n setter word : ℕ) (records : List Record) → SomeRecord (IsArming index n setter word) records → last_arming_number index records ≡ Some n
    → last_arming index records ≡ Some (record { setter = setter; word = word })
arming_stays index n setter word [] armed last = absurd armed
arming_stays index n setter word (latest ∷ earlier) (inl here) last =
    let now : armed_after index latest.task (Insert index word) (answers.Flag true) (last_arming index earlier) ≡ Some (record { setter = latest.task; word = word }) =
    rw (eq-eqb index index refl) refl in
    ap (λ (st : Step). armed_after index latest.task st latest.answer (last_arming index earlier)) here.step
    ∙ (ap (λ (a : Answer). armed_after index latest.task (Insert index word) a (last_arming index earlier)) here.answer
    ∙ (now ∙ ap (λ (t : ℕ). Some (record { setter = t; word = word })) here.task))
arming_stays index n setter word (latest ∷ earlier) (inr before) last =
    let old : n < length earlier = arming_below index n setter word earlier before in
    let still : last_arming_number index earlier ≡ Some n = old_number index latest.step latest.answer (length earlier) n (last_arming_number index earlier) old last in
    elim (armed_kinds index latest.task latest.step latest.answer (last_arming index earlier)) [
      | inl kept ↦ kept ∙ arming_stays index n setter word earlier before still
      | inr inserts ↦
          let anew = inserts_now index inserts.0 (length earlier) latest.step latest.answer (last_arming_number index earlier) inserts.1 inserts.2 in
          let same : length earlier ≡ n = some_same (sym anew ∙ last) in absurd (omega (arith, same, old))
    ]

abbrev hand_of : ℕ → Part → InHand
hand_of index part = record { index = index; part = part }

index_of : Option InHand → ℕ
index_of None = 0
index_of (Some hand) = hand.index

same_hand : (at index : ℕ) (one other : Part) → Some (hand_of at one) ≡ Some (hand_of index other) → (at ≡ index) × (one ≡ other)
same_hand at index one other is =
    let same : hand_of at one ≡ hand_of index other = some_same is in
    (ap (λ (h : InHand). h.index) same, ap (λ (h : InHand). h.part) same)

-- a task that had nothing in hand after an arming has it in hand later only if it took it since
module _ (task index n : ℕ) (base : List Record) (old : n < length base) (idle : in_hand (records_of task base) ≡ None) where
  record TookIt (since : List Record) : Type 0 where
    later : List Record
    made : Record
    earlier : List Record
    split : since ≡ later ++ made ∷ earlier
    word : ℕ
    takes : IsTaking index n task word made (earlier ++ base)

  record Took (since : List Record) (part : Part) : Type 0 where
    held : ℕ
    is : part ≡ parts.Taken held
    took : TookIt since

  took_more : (latest : Record) (since : List Record) → TookIt since → TookIt (latest ∷ since)
  took_more latest since it = record {
    later = latest ∷ it.later;
    made = it.made;
    earlier = it.earlier;
    split = ap (λ (r : List Record). latest ∷ r) it.split;
    word = it.word;
    takes = it.takes;
  }

  module _ (latest : Record) (since : List Record) (mine : latest.task ≡ task)
      (before : (part : Part) → HasPart index part (records_of task (since ++ base)) → last_arming_number index (since ++ base) ≡ Some n → Took since part) where
    abbrev own : List Record
    own = records_of task (since ++ base)

    abbrev last : Option ℕ
    last = last_arming_number index (since ++ base)

    abbrev k : ℕ
    k = length (since ++ base)

    still : (part : Part) → in_hand own ≡ Some (hand_of index part) → last ≡ Some n → Took (latest ∷ since) part
    still part has is = let it = before part has is in record { held = it.held; is = it.is; took = took_more latest since it.took }

    -- a setter's step comes after a setter's
    never : (at : ℕ) (part setters : Part) → at ≡ index → HasPart at setters own → ((word : ℕ) → setters ≡ parts.Taken word → ⊥) → last ≡ Some n → Took (latest ∷ since) part
    never at part setters here has apart is =
        let it = before setters (subst (λ (i : ℕ). HasPart i setters own) here has) is in absurd (apart it.held it.is)

    own_step : (step : Step) (answer : Answer) (part : Part) → latest.step ≡ step → latest.answer ≡ answer → Allows task own step
        → hand_after step answer (in_hand own) ≡ Some (hand_of index part) → last ≡ Some n → number_after index step answer k last ≡ Some n → n < k
        → Took (latest ∷ since) part
    own_step (Insert at word) (answers.Flag true) part step_is answer_is allowed has is numbered below =
        let here : at ≡ index = (same_hand at index (parts.Inserted word) part has).0 in
        let anew = inserts_now index word k (Insert at word) (answers.Flag true) last (ap (λ (i : ℕ). Insert i word) here) refl in
        let same : k ≡ n = some_same (sym anew ∙ numbered) in absurd (omega (arith, same, below))
    own_step (Insert at word) (answers.Flag false) part step_is answer_is allowed has is numbered below = still part has is
    own_step (Insert at word) (answers.Word w) part step_is answer_is allowed has is numbered below = still part has is
    own_step (Insert at word) (answers.Halves s f) part step_is answer_is allowed has is numbered below = still part has is
    own_step (Insert at word) answers.Done part step_is answer_is allowed has is numbered below = still part has is
    own_step (TryConsume at word) (answers.Flag true) part step_is answer_is allowed has is numbered below =
        let same = same_hand at index (parts.Taken word) part has in record {
          held = word;
          is = sym same.1;
          took = record {
            later = [];
            made = latest;
            earlier = since;
            split = refl;
            word = word;
            takes = record { task = mine; step = step_is ∙ ap (λ (i : ℕ). TryConsume i word) same.0; answer = answer_is; last = is };
          };
        }
    own_step (TryConsume at word) (answers.Flag false) part step_is answer_is allowed has is numbered below = still part has is
    own_step (TryConsume at word) (answers.Word w) part step_is answer_is allowed has is numbered below = still part has is
    own_step (TryConsume at word) (answers.Halves s f) part step_is answer_is allowed has is numbered below = still part has is
    own_step (TryConsume at word) answers.Done part step_is answer_is allowed has is numbered below = still part has is
    own_step (Name at ticket) answer part step_is answer_is allowed has is numbered below =
        never at part (parts.Inserted allowed.1) (same_hand at index (parts.Named ticket) part has).0 allowed.2 (λ word same. cc) is
    own_step (Consume at) (answers.Flag true) part step_is answer_is allowed has is numbered below =
        never at part (parts.Named allowed.0) (same_hand at index parts.Untouched part has).0 allowed.1 (λ word same. cc) is
    own_step (Consume at) (answers.Flag false) part step_is answer_is allowed has is numbered below =
        never at part (parts.Named allowed.0) (same_hand at index parts.Hit part has).0 allowed.1 (λ word same. cc) is
    own_step (Consume at) (answers.Word w) part step_is answer_is allowed has is numbered below = still part has is
    own_step (Consume at) (answers.Halves s f) part step_is answer_is allowed has is numbered below = still part has is
    own_step (Consume at) answers.Done part step_is answer_is allowed has is numbered below = still part has is
    own_step (Clear at) answer part step_is answer_is (inl untouched) has is numbered below =
        never at part parts.Untouched (same_hand at index parts.Cleared part has).0 untouched (λ word same. cc) is
    own_step (Clear at) answer part step_is answer_is (inr hit) has is numbered below =
        never at part parts.Hit (same_hand at index parts.Cleared part has).0 hit.0 (λ word same. cc) is
    own_step (Remove at) answer part step_is answer_is allowed has is numbered below = absurd (let no : None ≡ Some (hand_of index part) = has in cc)
    own_step (Tell at ticket) answer part step_is answer_is allowed has is numbered below = absurd (let no : None ≡ Some (hand_of index part) = has in cc)
    own_step (Load at) answer part step_is answer_is allowed has is numbered below = still part has is
    own_step (PairLoad at) answer part step_is answer_is allowed has is numbered below = still part has is
    own_step (CellLoad cell) answer part step_is answer_is allowed has is numbered below = still part has is
    own_step (CellExchange cell expected new) answer part step_is answer_is allowed has is numbered below = still part has is
    own_step (LockTry lock holder) answer part step_is answer_is allowed has is numbered below = still part has is
    own_step (LockStore lock) answer part step_is answer_is allowed has is numbered below = still part has is
    own_step Clock answer part step_is answer_is allowed has is numbered below = still part has is

  took_it : (since : List Record) → AllKeepDiscipline (since ++ base) → (part : Part) → HasPart index part (records_of task (since ++ base))
      → last_arming_number index (since ++ base) ≡ Some n → Took since part
  took_it [] keeps part has last = absurd (let no : None ≡ Some (hand_of index part) = sym idle ∙ has in cc)
  took_it (latest ∷ since) keeps part has last =
      let k : ℕ = length (since ++ base) in
      let long : k ≡ length since + length base = length-append since base in
      let below : n < k = omega (arith, long, old) in
      let before : last_arming_number index (since ++ base) ≡ Some n =
      old_number index latest.step latest.answer k n (last_arming_number index (since ++ base)) below last in
      elim (eqb_tells latest.task task) [
        | inl mine ↦
            let own : records_of task (latest ∷ (since ++ base)) ≡ latest ∷ records_of task (since ++ base) = own_latest task latest (since ++ base) mine.1 in
            let allowed : Allows task (records_of task (since ++ base)) latest.step =
            subst (λ (t : ℕ). Allows t (records_of t (since ++ base)) latest.step) mine.1 (allowed_at latest (since ++ base) keeps) in
            own_step latest since mine.1 (took_it since (kept_before latest (since ++ base) keeps)) latest.step latest.answer part refl refl allowed
            (sym (ap in_hand own) ∙ has) before last below
        | inr others ↦
            let same : records_of task (latest ∷ (since ++ base)) ≡ records_of task (since ++ base) = rw others.0 refl in
            let it = took_it since (kept_before latest (since ++ base) keeps) part (sym (ap in_hand same) ∙ has) before in
            record { held = it.held; is = it.is; took = took_more latest since it.took }
      ]

some_in : (P : Record → List Record → Type 0) (later : List Record) (made : Record) (earlier : List Record) → P made earlier → SomeRecord P (later ++ made ∷ earlier)
some_in P [] made earlier is = inl is
some_in P (latest ∷ later) made earlier is = inr (some_in P later made earlier is)

once_from : (later earlier : List Record) → MeetOnce (later ++ earlier) → MeetOnce earlier
once_from [] earlier once = once
once_from (latest ∷ later) earlier once = once_from later earlier once.0

keeps_from : (later earlier : List Record) → AllKeepDiscipline (later ++ earlier) → AllKeepDiscipline earlier
keeps_from [] earlier keeps = keeps
keeps_from (latest ∷ later) earlier keeps = keeps_from later earlier (kept_before latest (later ++ earlier) keeps)

-- a step of the clock after a record of this kind
pub record HasClockAfter (P : Record → List Record → Type 0) (task : ℕ) (records : List Record) : Type 0 where
  pub later : List Record
  pub clock : Record
  pub earlier : List Record
  pub split : records ≡ later ++ clock ∷ earlier
  pub mine : clock.task ≡ task
  pub step : clock.step ≡ Clock
  pub before : SomeRecord P earlier

-- after it the task has nothing in hand
idle_then : (P : Record → List Record → Type 0) (task : ℕ) (records : List Record) → AllKeepDiscipline records → (it : HasClockAfter P task records)
    → in_hand (records_of task (it.clock ∷ it.earlier)) ≡ None
idle_then P task records keeps it =
    let here : AllKeepDiscipline (it.clock ∷ it.earlier) =
    keeps_from it.later (it.clock ∷ it.earlier) (subst (λ (r : List Record). AllKeepDiscipline r) it.split keeps) in
    let allowed : Allows task (records_of task it.earlier) it.clock.step =
    subst (λ (t : ℕ). Allows t (records_of t it.earlier) it.clock.step) it.mine (allowed_at it.clock it.earlier here) in
    let idle : in_hand (records_of task it.earlier) ≡ None = subst (λ (st : Step). Allows task (records_of task it.earlier) st) it.step allowed in
    ap in_hand (own_latest task it.clock it.earlier it.mine)
    ∙ (ap (λ (st : Step). hand_after st it.clock.answer (in_hand (records_of task it.earlier))) it.step ∙ idle)

abbrev armed_at : ℕ → ℕ → Armed
armed_at index number = record { index = index; number = number }

same_armed : (i n j m : ℕ) → Some (armed_at i n) ≡ Some (armed_at j m) → (i ≡ j) × (n ≡ m)
same_armed i n j m is =
    let same : armed_at i n ≡ armed_at j m = some_same is in
    (ap (λ (a : Armed). a.index) same, ap (λ (a : Armed). a.number) same)

armed_by_number : (hand : InHand) (records : List Record) (index n : ℕ) (last : Option ℕ) → last_arming_number hand.index records ≡ last
    → option_map {U = Armed} (λ (number : ℕ). armed_at hand.index number) last ≡ Some (armed_at index n)
    → (part : Part) × (Some hand ≡ Some (hand_of index part)) × (last_arming_number index records ≡ Some n)
armed_by_number hand records index n None last_is same = absurd (let no : None ≡ Some (armed_at index n) = same in cc)
armed_by_number hand records index n (Some number) last_is same =
    let it = same_armed hand.index number index n same in (
      hand.part,
      ap (λ (i : ℕ). Some (hand_of i hand.part)) it.0,
      ap (λ (i : ℕ). last_arming_number i records) (sym it.0) ∙ (last_is ∙ ap Some it.1),
    )

in_hand_so : (hand : Option InHand) (records : List Record) (index n : ℕ) → armed_in hand records ≡ Some (armed_at index n)
    → (part : Part) × (hand ≡ Some (hand_of index part)) × (last_arming_number index records ≡ Some n)
in_hand_so None records index n is = absurd (let no : None ≡ Some (armed_at index n) = is in cc)
in_hand_so (Some hand) records index n is = armed_by_number hand records index n (last_arming_number hand.index records) refl is

module _ (index n setter word finder taken_word : ℕ) (words : Words) (records : List Record) (keeps : AllKeepDiscipline records) (once : MeetOnce records)
    (table : roles.Stands words records index) (arming : HasClockAfter (IsArming index n setter word) setter records)
    (taking : HasClockAfter (IsTaking index n finder taken_word) finder records) where
  some_later : (P : Record → List Record → Type 0) (later earlier : List Record) → SomeRecord P earlier → SomeRecord P (later ++ earlier)
  some_later P [] earlier h = h
  some_later P (latest ∷ later) earlier h = inr (some_later P later earlier h)

  armed_there : SomeRecord (IsArming index n setter word) records
  armed_there = subst (λ (r : List Record). SomeRecord (IsArming index n setter word) r) (sym arming.split)
      (some_later (IsArming index n setter word) arming.later (arming.clock ∷ arming.earlier) (inr arming.before))

  taken_there : SomeRecord (IsTaking index n finder taken_word) records
  taken_there = subst (λ (r : List Record). SomeRecord (IsTaking index n finder taken_word) r) (sym taking.split)
      (some_later (IsTaking index n finder taken_word) taking.later (taking.clock ∷ taking.earlier) (inr taking.before))

  -- who took it since it had nothing in hand
  took_since : (P : Record → List Record → Type 0) (task : ℕ) (it : HasClockAfter P task records) → n < length (it.clock ∷ it.earlier) → (part : Part)
      → HasPart index part (records_of task records) → last_arming_number index records ≡ Some n
      → (later : List Record) × (made : Record) × (earlier : List Record) × (taken : ℕ)
      × (records ≡ later ++ made ∷ (earlier ++ it.clock ∷ it.earlier)) × IsTaking index n task taken made (earlier ++ it.clock ∷ it.earlier)
  took_since P task it old part has last =
      let base : List Record = it.clock ∷ it.earlier in
      let got = took_it task index n base old (idle_then P task records keeps it) it.later
      (subst (λ (r : List Record). AllKeepDiscipline r) it.split keeps) part
      (subst (λ (r : List Record). HasPart index part (records_of task r)) it.split has)
      (subst (λ (r : List Record). last_arming_number index r ≡ Some n) it.split last) in
      let took = got.took in (
        took.later,
        took.made,
        took.earlier,
        took.word,
        it.split ∙ (ap (λ (r : List Record). r ++ base) took.split ∙ append_assoc took.later (took.made ∷ took.earlier) base),
        took.takes,
      )

  no_finder : (part : Part) → HasPart index part (records_of finder records) → last_arming_number index records ≡ Some n → ⊥
  no_finder part has last =
      let base : List Record = taking.clock ∷ taking.earlier in
      let old : n < length base = taken_old taking.earlier taking.before in
      let it = took_since (IsTaking index n finder taken_word) finder taking old part has last in
      let earlier : List Record = it.2 ++ base in
      let meets = (once_from it.0 (it.1 ∷ earlier) (subst (λ (r : List Record). MeetOnce r) it.4 once)) in
      let none : finder_at index earlier ≡ None = meets_now index it.3 it.1.step it.1.answer earlier it.5.step it.5.answer meets.1 in
      let found : finder_at index earlier ≡ Some finder =
      finder_stays index n finder taken_word earlier meets.0 (some_later (IsTaking index n finder taken_word) it.2 base (inr taking.before)) it.5.last in
      let never : None ≡ Some finder = sym none ∙ found in absurd (cc)
    where
      taken_old : (r : List Record) → SomeRecord (IsTaking index n finder taken_word) r → n < suc (length r)
      taken_old [] h = absurd h
      taken_old (first ∷ r) (inl at) = let below : n < length r = last_below index n r at.last in omega (arith, below)
      taken_old (first ∷ r) (inr more) = let below : n < suc (length r) = taken_old r more in omega (arith, below)

  no_setter : (part : Part) → HasPart index part (records_of setter records) → last_arming_number index records ≡ Some n → finder ≢ setter → ⊥
  no_setter part has last two =
      let base : List Record = arming.clock ∷ arming.earlier in
      let old : n < length base = (let below = arming_below index n setter word arming.earlier arming.before in omega (arith, below)) in
      let it = took_since (IsArming index n setter word) setter arming old part has last in
      let mine : SomeRecord (IsTaking index n setter it.3) records =
      subst (λ (r : List Record). SomeRecord (IsTaking index n setter it.3) r) (sym it.4) (some_in (IsTaking index n setter it.3) it.0 it.1 (it.2 ++ base) it.5) in
      let one = finder_stays index n setter it.3 records once mine last in
      let other = finder_stays index n finder taken_word records once taken_there last in
      two (some_same (sym other ∙ one))

  by_table : (task : ℕ) (part : Part) → HasPart index part (records_of task records) → last_arming_number index records ≡ Some n → roles.Stands words records index → ⊥
  by_table task part has last (roles.Free h) =
      let none = h.nobody task in
      let some = here_part index (in_hand (records_of task records)) part has in
      let never : None ≡ Some part = sym none ∙ some in absurd (cc)
  by_table task part has last (roles.Watched h) =
      let found = finder_stays index n finder taken_word records once taken_there last in
      let never : None ≡ Some finder = sym h.untaken ∙ found in absurd (cc)
  by_table task part has last (roles.Quiet h) =
      let found = finder_stays index n finder taken_word records once taken_there last in
      let never : None ≡ Some finder = sym h.untaken ∙ found in absurd (cc)
  by_table task part has last (roles.TakenThere h) =
      let found = finder_stays index n finder taken_word records once taken_there last in
      let its_finder : h.finder ≡ finder = some_same (sym h.taken ∙ found) in
      let armed = arming_stays index n setter word records armed_there last in
      let its_setter : h.setter ≡ setter = ap (λ (a : Arming). a.setter) (some_same (sym h.armed ∙ armed)) in
      let two : finder ≢ setter = λ same. h.two (its_finder ∙ (same ∙ sym its_setter)) in
      elim (eqb_tells task setter) [
        | inl sets ↦ no_setter part (subst (λ (t : ℕ). HasPart index part (records_of t records)) sets.1 has) last two
        | inr not_setter ↦ elim (eqb_tells task finder) [
          | inl finds ↦ no_finder part (subst (λ (t : ℕ). HasPart index part (records_of t records)) finds.1 has) last
          | inr not_finder ↦
              let none = h.alone task (λ same. not_setter.1 (same ∙ its_setter)) (λ same. not_finder.1 (same ∙ its_finder)) in
              let some = here_part index (in_hand (records_of task records)) part has in
              let never : None ≡ Some part = sym none ∙ some in absurd (cc)
        ]
      ]

  pub is_over : IsTakingOver index n records
  is_over task armed =
      let it = in_hand_so (in_hand (records_of task records)) records index n armed in by_table task it.0 it.1 it.2 table

-- an end is told by a step of the clock
marks_no_end : (marks : List Happening) (a : Access) → AreMarks marks → ¬ Has marks (happenings.End a)
marks_no_end [] a are h = h
marks_no_end (happenings.Mark mark ∷ marks) a are (inl is) = cc
marks_no_end (happenings.Mark mark ∷ marks) a are (inr more) = marks_no_end marks a are.1 more
marks_no_end (happenings.Begin b ∷ marks) a are h = are.0
marks_no_end (happenings.End b ∷ marks) a are h = are.0
marks_no_end (happenings.Read bytes value ∷ marks) a are h = are.0
marks_no_end (happenings.Write bytes value ∷ marks) a are h = are.0
marks_no_end (happenings.Lock lock ∷ marks) a are h = are.0
marks_no_end (happenings.Unlock lock ∷ marks) a are h = are.0

is_end : Happening → Bool
is_end (happenings.End a) = true
is_end happening = false

none_has : (did known : List Happening) (a : Access) → did ≡ known → ¬ Has known (happenings.End a) → Has did (happenings.End a) → ⊥
none_has did known a is none h = none (subst (λ (d : List Happening). Has d (happenings.End a)) is h)

no_end : (x : Happening) (a : Access) → is_end x ≡ false → x ≡ happenings.End a → ⊥
unfolding is_end
no_end x a none is = let both : false ≡ true = sym none ∙ ap is_end is in cc

no_end_one : (x : Happening) (a : Access) → is_end x ≡ false → ¬ Has (x ∷ []) (happenings.End a)
no_end_one x a none (inl is) = no_end x a none is
no_end_one x a none (inr more) = more

no_end_two : (x y : Happening) (a : Access) → is_end x ≡ false → is_end y ≡ false → ¬ Has (x ∷ y ∷ []) (happenings.End a)
no_end_two x y a one two (inl is) = no_end x a one is
no_end_two x y a one two (inr more) = no_end_one y a two more

no_end_none : (a : Access) → ¬ Has [] (happenings.End a)
no_end_none a h = h

module _ (s : Setting) (before : List Happening) (a : Access) where
  no_end_read : (cell : ℕ) (answer : Answer) (did : List Happening) → ReadsAtMost s cell answer did → ¬ Has did (happenings.End a)
  unfolding is_end
  no_end_read cell answer did (inl none) h = none_has did [] a none (no_end_none a) h
  no_end_read cell answer did (inr reads) h = none_has did _ a reads.is (no_end_one _ a refl) h

  no_end_written : (cell old new : ℕ) (did : List Happening) → Writes s cell old new did → ¬ Has did (happenings.End a)
  unfolding is_end
  no_end_written cell old new did writes h = elim writes.is [
    | inl alone ↦ none_has did _ a alone (no_end_one _ a refl) h
    | inr both ↦ none_has did _ a both (no_end_two _ _ a refl refl) h
  ]

  no_end_tried : (lock holder : ℕ) (answer : Answer) (did : List Happening) → IsEvent s before (LockTry lock holder) answer did → ¬ Has did (happenings.End a)
  unfolding is_end
  no_end_tried lock holder (answers.Flag true) did event h = none_has did _ a event.4 (no_end_one _ a refl) h
  no_end_tried lock holder (answers.Flag false) did event h = none_has did [] a event (no_end_none a) h
  no_end_tried lock holder (answers.Word word) did event h = none_has did [] a event (no_end_none a) h
  no_end_tried lock holder (answers.Halves setter finder) did event h = none_has did [] a event (no_end_none a) h
  no_end_tried lock holder answers.Done did event h = none_has did [] a event (no_end_none a) h

  no_end_exchanged : (cell expected new : ℕ) (answer : Answer) (did : List Happening) → IsEvent s before (CellExchange cell expected new) answer did → ¬ Has did (happenings.End a)
  no_end_exchanged cell expected new (answers.Flag true) did event = no_end_written cell expected new did event
  no_end_exchanged cell expected new (answers.Flag false) did event = no_end_read cell (answers.Flag false) did event
  no_end_exchanged cell expected new (answers.Word word) did event = no_end_read cell (answers.Word word) did event
  no_end_exchanged cell expected new (answers.Halves setter finder) did event = no_end_read cell (answers.Halves setter finder) did event
  no_end_exchanged cell expected new answers.Done did event = no_end_read cell answers.Done did event

  event_clock : (step : Step) (answer : Answer) (did : List Happening) → IsEvent s before step answer did → Has did (happenings.End a) → step ≡ Clock
  unfolding is_end
  event_clock Clock answer did event h = refl
  event_clock (Load index) answer did event h = absurd (none_has did [] a event (no_end_none a) h)
  event_clock (Insert index word) answer did event h = absurd (none_has did [] a event (no_end_none a) h)
  event_clock (TryConsume index word) answer did event h = absurd (none_has did [] a event (no_end_none a) h)
  event_clock (Consume index) answer did event h = absurd (none_has did [] a event (no_end_none a) h)
  event_clock (Remove index) answer did event h = absurd (none_has did [] a event (no_end_none a) h)
  event_clock (PairLoad index) answer did event h = absurd (none_has did [] a event (no_end_none a) h)
  event_clock (Name index ticket) answer did event h = absurd (none_has did [] a event (no_end_none a) h)
  event_clock (Tell index ticket) answer did event h = absurd (none_has did [] a event (no_end_none a) h)
  event_clock (Clear index) answer did event h = absurd (none_has did [] a event (no_end_none a) h)
  event_clock (CellLoad cell) answer did event h = absurd (no_end_read cell answer did event h)
  event_clock (CellExchange cell expected new) answer did event h = absurd (no_end_exchanged cell expected new answer did event h)
  event_clock (LockTry lock holder) answer did event h = absurd (no_end_tried lock holder answer did event h)
  event_clock (LockStore lock) answer did event h = absurd (none_has did _ a event.3 (no_end_one _ a refl) h)

  end_clock : (step : Step) (answer : Answer) (did : List Happening) → DoesEvent s before step answer did → Has did (happenings.End a) → step ≡ Clock
  end_clock step answer did does h =
      elim (has_either does.event does.marks (happenings.End a) (subst (λ (d : List Happening). Has d (happenings.End a)) does.all h)) [
        | inl now ↦ event_clock step answer does.event does.is_event now
        | inr later ↦ absurd (marks_no_end does.marks a does.are_marks later)
      ]

in_moments : (task : ℕ) (did : List Happening) (a : Access) → Has (moments_of task did) (ending a) → (task ≡ a.task) × Has did (happenings.End a)
in_moments task [] a h = absurd h
in_moments task (x ∷ did) a (inl is) = (ap (λ (m : Moment). m.task) is, inl (ap (λ (m : Moment). m.happening) is))
in_moments task (x ∷ did) a (inr more) = let it = in_moments task did a more in (it.0, inr it.1)

module _ (run : Run) (records : List Record) (list : Execution run records) where
  record ClockIn (a : Access) (more : List Record) : Type 0 where
    later : List Record
    clock : Record
    earlier : List Record
    split : more ≡ later ++ clock ∷ earlier
    mine : clock.task ≡ a.task
    step : clock.step ≡ Clock

  told_now : (a : Access) (latest : Record) (earlier : List Record) → EachDoesItsEvent list (latest ∷ earlier)
      → Has (moments_of latest.task (did_next (list.tasks latest.task) (made_by latest.task earlier))) (ending a) → (latest.task ≡ a.task) × (latest.step ≡ Clock)
  told_now a latest earlier events h =
      let it = in_moments latest.task (did_next (list.tasks latest.task) (made_by latest.task earlier)) a h in
      (it.0, end_clock (task_setting run latest.task) (did_by (list.tasks latest.task) (made_by latest.task earlier)) a latest.step latest.answer _ events.1 it.1)

  clock_in : (a : Access) (more base : List Record) → EachDoesItsEvent list (more ++ base) → ¬ Has (history_by list base) (ending a)
      → Has (history_by list (more ++ base)) (ending a) → ClockIn a more
  clock_in a [] base events none h = absurd (none h)
  clock_in a (latest ∷ more) base events none h =
      elim (has_either (history_by list (more ++ base)) (moments_of latest.task (did_next (list.tasks latest.task) (made_by latest.task (more ++ base)))) (ending a) h) [
        | inl before ↦
            let it = clock_in a more base events.0 none before in record {
              later = latest ∷ it.later;
              clock = it.clock;
              earlier = it.earlier;
              split = ap (λ (r : List Record). latest ∷ r) it.split;
              mine = it.mine;
              step = it.step;
            }
        | inr now ↦
            let it = told_now a latest (more ++ base) events now in
            record { later = []; clock = latest; earlier = more; split = refl; mine = it.0; step = it.1 }
      ]

  events_back : (later earlier : List Record) → EachDoesItsEvent list (later ++ earlier) → EachDoesItsEvent list earlier
  events_back [] earlier events = events
  events_back (latest ∷ later) earlier events = events_back later earlier events.0

  -- an access that has ended since has a step of the clock since
  pub clock_since : (P : Record → List Record → Type 0) (task : ℕ) → ((made : Record) (earlier : List Record) → P made earlier → (made.task ≡ task) × (made.step ≢ Clock))
      → EachDoesItsEvent list records → HasEndedSince list P → HasClockAfter P task records
  clock_since P task of_kind events it =
      let a : Access = it.access in
      let base : List Record = it.made ∷ it.earlier in
      let kind = of_kind it.made it.earlier it.is in
      let all : EachDoesItsEvent list (it.later ++ base) = subst (λ (r : List Record). EachDoesItsEvent list r) it.split events in
      let told_before : take (length (history_by list it.earlier)) (history_of list) ≡ history_by list it.earlier =
      told_front run records list (it.later ++ it.made ∷ []) it.earlier (it.split ∙ sym (append_assoc it.later (it.made ∷ []) it.earlier)) in
      let none : ¬ Has (history_by list base) (ending a) =
      λ h. elim (has_either (history_by list it.earlier) (moments_of it.made.task (did_next (list.tasks it.made.task) (made_by it.made.task it.earlier))) (ending a) h) [
        | inl before ↦ it.goes.unended (subst (λ (m : History). Contains m (ending a)) (sym told_before) (has_contains (history_by list it.earlier) (ending a) before))
        | inr now ↦ kind.1 (told_now a it.made it.earlier (events_back it.later base all) now).1
      ] in
      let ends : Has (history_by list (it.later ++ base)) (ending a) =
      subst (λ (r : List Record). Has (history_by list r) (ending a)) it.split (contains_has (history_of list) (ending a) it.ended) in
      let clock = clock_in a it.later base all none ends in
      record {
        later = clock.later;
        clock = clock.clock;
        earlier = clock.earlier ++ base;
        split = it.split ∙ (ap (λ (r : List Record). r ++ base) clock.split ∙ append_assoc clock.later (clock.clock ∷ clock.earlier) base);
        mine = clock.mine ∙ (it.mine ∙ kind.0);
        step = clock.step;
        before = some_in P clock.earlier it.made it.earlier it.is;
      }

  pub ended_over : (index n setter word finder taken_word : ℕ) (words : Words) → AllKeepDiscipline records → MeetOnce records → roles.Stands words records index
      → EachDoesItsEvent list records → HasEndedSince list (IsArming index n setter word) → HasEndedSince list (IsTaking index n finder taken_word) → IsTakingOver index n records
  ended_over index n setter word finder taken_word words keeps once table events arming taking =
      is_over index n setter word finder taken_word words records keeps once table
      (clock_since (IsArming index n setter word) setter (λ made earlier it. (it.task, λ clock. let no : Insert index word ≡ Clock = sym it.step ∙ clock in cc)) events arming)
      (clock_since (IsTaking index n finder taken_word) finder (λ made earlier it. (it.task, λ clock. let no : TryConsume index taken_word ≡ Clock = sym it.step ∙ clock in cc)) events taking)

  pub taking_stands : (P : Record → List Record → Type 0) → HasEndedSince list P → SomeRecord P records
  taking_stands P it = subst (λ (r : List Record). SomeRecord P r) (sym it.split) (some_in P it.later it.made it.earlier it.is)
