-- The armings that a log keeps are those that its task removed.
use Rattle.std.proofs.Common.{◌≡◌, ◌∙◌, ◌++◌, ◌∷◌, [], inl, inr, ℕ, List, Option, Some, ap, map, refl, subst, sym, unwrap_or}
use Rattle.std.specs.Option.{option_or}
use Rattle.std.proofs.lemmas.Bool.Decides.{eqb_tells}
use Rattle.std.proofs.lemmas.List.{append-nil, map-append}
use Rattle.access_types.specs.Arms.{Arm}
use Rattle.litmus_syntax.specs.Tree.{Block}
use Rattle.executions.proofs.execution.OwnLasts.{own_latest, own_name, own_word}
use Rattle.log_correctness.specs.Noted.{AreNoted}
use Rattle.log_correctness.specs.Removed.{Removed, as_removed, removed_at, removed_by}
use Rattle.log_correctness.proofs.HandIsLastArming.{AreOf, IsNamed, Says, all_say, in_part, last_word}
use Rattle.log_correctness.proofs.Naming.{last_name, names_noted}
use Rattle.slot_table.specs.Armings.{Arming, last_arming, named_at}
use Rattle.slot_table.specs.Discipline.{Allows, in_hand}
use Rattle.slot_table.specs.Records.{records_of}
use Rattle.slot_table.specs.declared.discipline.Part.TheVariants.{Cleared}
use Rattle.slot_table.specs.declared.records.Record.{Record}
use Rattle.slot_table.specs.declared.step.Answer.{Answer}
use Rattle.slot_table.specs.declared.step.Step.{Step}
use Rattle.slot_table.specs.declared.step.Step.TheVariants as steps
use Rattle.slot_table.proofs.Lists.{Keeps, allowed_at, fits_all, keeps_before, view_of}
use Rattle.slot_table.proofs.Moves.{is_setter}
use Rattle.slot_table.proofs.Phases.{Fits, View}
use Rattle.slot_table.proofs.Steps.{here_part}
use Rattle.task_log.specs.Arms.{arm_removed, arms_at, arms_of, setter_named}
use Rattle.task_log.specs.Noted.{armed, armed_by, last_of}
use Rattle.task_log.specs.declared.noted.Noted.{Noted}
use Rattle.program_order.specs.Standing.{Setting}
use Rattle.program_order.specs.WrittenOrder.{WrittenOrder}

pub words_noted : {s : Setting} {registers : ℕ} {body : Block} {records : List Record} (written : WrittenOrder s registers body records) (own : List Record)
    (noted : List Noted) → AreNoted written own noted → last_of armed noted ≡ last_word own
words_noted written [] [] are = refl
words_noted written [] (noted ∷ before) are = absurd are
words_noted written (latest ∷ earlier) [] are = absurd are
words_noted written (latest ∷ earlier) (noted ∷ before) are =
    ap (λ (st : Step). option_or (armed_by st noted.answer) (last_of armed before)) are.1.step
    ∙ (ap (λ (an : Answer). option_or (armed_by latest.step an) (last_of armed before)) are.1.answer
    ∙ ap (λ (o : Option ℕ). option_or (armed_by latest.step latest.answer) o) (words_noted written earlier before are.0))

pub of_task : (task : ℕ) (records : List Record) → AreOf task (records_of task records)
of_task task [] = tt
of_task task (latest ∷ earlier) = elim (eqb_tells latest.task task) [
  | inl mine ↦ rw mine.0 (mine.1, of_task task earlier)
  | inr others ↦ rw others.0 (of_task task earlier)
]

pub some_is : (one other : ℕ) → ◌≡◌ {A = Option ℕ} (Some one) (Some other) → one ≡ other
some_is one other is = cc

-- who removes at an index is the setter of the last arming there
setter_there : (index : ℕ) (v : View) (task : ℕ) → Fits index v → v.part task ≡ Some Cleared
    → (arming : Arming) × (v.last.arming ≡ Some arming) × (arming.setter ≡ task)
setter_there index v task (hears, inl idle) has = let none = idle.nobody task in absurd (cc)
setter_there index v task (hears, inr (phase, h)) has =
    let it = is_setter index phase v h task Cleared has (λ other e. cc) in
    (record { setter = h.setter; word = h.word }, h.arming, sym it.0)

module _ (page_slots locks : ℕ) (cells : List ℕ) where
  -- what the table tells of an arming at its remove the task's own last words tell
  pub record AtRemove (task index : ℕ) (earlier : List Record) : Type 0 where
    pub word : ℕ
    pub ticket : ℕ
    pub armed_so : last_arming index earlier ≡ Some (record { setter = task; word = word })
    pub named_so : named_at index earlier ≡ Some ticket
    pub own_armed : last_word (records_of task earlier) ≡ Some word
    pub own_named : last_name (records_of task earlier) ≡ Some ticket

  pub at_remove : (latest : Record) (earlier : List Record) (index : ℕ) → Keeps page_slots locks cells (latest ∷ earlier) → latest.step ≡ steps.Remove index
      → AtRemove latest.task index earlier
  at_remove latest earlier index rules is =
      let task : ℕ = latest.task in
      let own : List Record = records_of task earlier in
      let before = keeps_before page_slots locks cells latest earlier rules in
      let allows : Allows task own (steps.Remove index) = subst (λ (st : Step). Allows task own st) is (allowed_at latest earlier rules.keeps) in
      let says : Says own = all_say task own (of_task task earlier) (before.keeps task) in
      let own_says : IsNamed (last_word own) (last_arming index own) (last_name own) (named_at index own) = in_part task own says index Cleared allows in
      let there = setter_there index (view_of page_slots locks cells earlier index) task (fits_all page_slots locks cells earlier before index)
      (here_part index (in_hand own) Cleared allows) in
      let arming : Arming = there.0 in
      let its : last_arming index own ≡ Some arming =
      subst (λ (t : ℕ). last_arming index (records_of t earlier) ≡ Some arming) there.2 (own_word page_slots locks cells earlier index arming before there.1) in
      let same_name : named_at index own ≡ named_at index earlier =
      subst (λ (t : ℕ). named_at index (records_of t earlier) ≡ named_at index earlier) there.2 (own_name page_slots locks cells earlier index arming before there.1) in
      let word : ℕ = own_says.0.0 in
      let both : Some arming ≡ Some (record { setter = own_says.0.1; word = word }) = sym its ∙ own_says.0.3 in
      let alike : arming ≡ record { setter = own_says.0.1; word = word } = cc in
      let same_word : arming.word ≡ word = ap (λ (a : Arming). a.word) alike in
      record {
        word = word;
        ticket = own_says.1.0;
        armed_so = there.1 ∙ (ap (λ (t : ℕ). Some (record { setter = t; word = arming.word })) there.2
            ∙ ap (λ (w : ℕ). Some (record { setter = task; word = w })) same_word);
        named_so = sym same_name ∙ own_says.1.2;
        own_armed = own_says.0.2;
        own_named = own_says.1.1;
      }

  module _ {s : Setting} {registers : ℕ} {body : Block} {all : List Record} (written : WrittenOrder s registers body all) (task : ℕ) where
    abbrev kept_as : List Arm → List Removed
    kept_as arms = map (as_removed task) arms

    with_step : (step : Step) (latest : Record) (earlier : List Record) (before : List Noted) → latest.step ≡ step → latest.task ≡ task
        → Keeps page_slots locks cells (latest ∷ earlier) → AreNoted written (records_of task earlier) before
        → kept_as (arms_at step before (arms_of before)) ≡ kept_as (arms_of before) ++ removed_at step earlier
    with_step (steps.Remove index) latest earlier before is mine rules are =
        let at : AtRemove task index earlier = subst (λ (t : ℕ). AtRemove t index earlier) mine (at_remove latest earlier index rules is) in
        let word : unwrap_or (last_of armed before) 0 ≡ at.word =
        ap (λ (o : Option ℕ). unwrap_or o 0) (words_noted written (records_of task earlier) before are ∙ at.own_armed) in
        let ticket : setter_named before ≡ at.ticket =
        ap (λ (o : Option ℕ). unwrap_or o 0) (names_noted written (records_of task earlier) before are ∙ at.own_named) in
        let one : as_removed task (arm_removed index before (arms_of before))
        ≡ record { index = index; arming = last_arming index earlier; named = named_at index earlier } =
        ap (λ (w : ℕ). record { index = index; arming = Some (record { setter = task; word = w }); named = Some (setter_named before) }) word
        ∙ (ap (λ (t : ℕ). record { index = index; arming = Some (record { setter = task; word = at.word }); named = Some t }) ticket
        ∙ (ap (λ (a : Option Arming). record { index = index; arming = a; named = Some at.ticket }) (sym at.armed_so)
        ∙ ap (λ (n : Option ℕ). record { index = index; arming = last_arming index earlier; named = n }) (sym at.named_so))) in
        map-append (as_removed task) (arms_of before) (arm_removed index before (arms_of before) ∷ [])
        ∙ ap (λ (r : Removed). kept_as (arms_of before) ++ r ∷ []) one
    with_step (steps.Load index) latest earlier before is mine rules are = sym (append-nil (kept_as (arms_of before)))
    with_step (steps.Insert index word) latest earlier before is mine rules are = sym (append-nil (kept_as (arms_of before)))
    with_step (steps.TryConsume index word) latest earlier before is mine rules are = sym (append-nil (kept_as (arms_of before)))
    with_step (steps.Consume index) latest earlier before is mine rules are = sym (append-nil (kept_as (arms_of before)))
    with_step (steps.PairLoad index) latest earlier before is mine rules are = sym (append-nil (kept_as (arms_of before)))
    with_step (steps.Name index ticket) latest earlier before is mine rules are = sym (append-nil (kept_as (arms_of before)))
    with_step (steps.Tell index ticket) latest earlier before is mine rules are = sym (append-nil (kept_as (arms_of before)))
    with_step (steps.Clear index) latest earlier before is mine rules are = sym (append-nil (kept_as (arms_of before)))
    with_step (steps.CellLoad cell) latest earlier before is mine rules are = sym (append-nil (kept_as (arms_of before)))
    with_step (steps.CellExchange cell expected new) latest earlier before is mine rules are = sym (append-nil (kept_as (arms_of before)))
    with_step (steps.LockTry lock holder) latest earlier before is mine rules are = sym (append-nil (kept_as (arms_of before)))
    with_step (steps.LockStore lock) latest earlier before is mine rules are = sym (append-nil (kept_as (arms_of before)))
    with_step steps.Clock latest earlier before is mine rules are = sym (append-nil (kept_as (arms_of before)))

    abbrev Goal : List Record → List Noted → Type 0
    Goal records noted = kept_as (arms_of noted) ≡ removed_by task records

    its_step : (latest : Record) (earlier : List Record) → ((before : List Noted) → AreNoted written (records_of task earlier) before → Goal earlier before)
        → (noted : List Noted) → AreNoted written (latest ∷ records_of task earlier) noted → latest.task ≡ task → Keeps page_slots locks cells (latest ∷ earlier)
        → kept_as (arms_of noted) ≡ removed_by task earlier ++ removed_at latest.step earlier
    its_step latest earlier rest [] are mine rules = absurd are
    its_step latest earlier rest (noted ∷ before) are mine rules =
        ap (λ (st : Step). kept_as (arms_at st before (arms_of before))) are.1.step
        ∙ (with_step latest.step latest earlier before refl mine rules are.0
        ∙ ap (λ (r : List Removed). r ++ removed_at latest.step earlier) (rest before are.0))

    pub kept_arms : (records : List Record) (noted : List Noted) → Keeps page_slots locks cells records → AreNoted written (records_of task records) noted
        → Goal records noted
    kept_arms [] [] rules are = refl
    kept_arms [] (noted ∷ before) rules are = absurd are
    kept_arms (latest ∷ earlier) noted rules are =
        let before = keeps_before page_slots locks cells latest earlier rules in
        elim (eqb_tells latest.task task) [
          | inl mine ↦
              rw mine.0 (its_step latest earlier (λ kept are_so. kept_arms earlier kept before are_so) noted
              (subst (λ (r : List Record). AreNoted written r noted) (own_latest task latest earlier mine.1) are) mine.1 rules)
          | inr others ↦
              let same : records_of task (latest ∷ earlier) ≡ records_of task earlier = rw others.0 refl in
              rw others.0 (kept_arms earlier noted before (subst (λ (r : List Record). AreNoted written r noted) same are) ∙ sym (append-nil (removed_by task earlier)))
        ]
