-- Who has heard its finder and hasn't cleared yet: which record makes a task such a setter, and which ends it.
use Rattle.std.proofs.Common.{◌≡◌, ◌≢◌, ◌<◌, ◌==◌, ◌⊎◌, ◌∙◌, ◌∷◌, inl, inr, ℕ, true, false, List, Option, None, Some, ap, arith, refl, subst, sym}
use Rattle.std.proofs.lemmas.Bool.{eq-eqb}
use Rattle.std.proofs.lemmas.Bool.Decides.{eqb_tells}
use Rattle.slot.specs.Pair.{Halves}
use Rattle.slot_table.specs.Armings.{last_arming_number}
use Rattle.slot_table.specs.Discipline.{HasHeardFinder, HasPart, hand_after, heard, heard_after, in_hand, part_at}
use Rattle.slot_table.specs.Meetings.{Meeting, heard_by, heard_from, meetings_at, told_by, told_to}
use Rattle.slot_table.specs.Records.{records_of}
use Rattle.slot_table.specs.declared.discipline.InHand.{InHand}
use Rattle.slot_table.specs.declared.discipline.Part.{Part}
use Rattle.slot_table.specs.declared.discipline.Part.TheVariants as parts
use Rattle.slot_table.specs.declared.records.Record.{Record}
use Rattle.slot_table.specs.declared.step.Answer.{Answer}
use Rattle.slot_table.specs.declared.step.Answer.TheVariants as answers
use Rattle.slot_table.specs.declared.step.Step.{Step}
use Rattle.slot_table.specs.declared.step.Step.TheVariants.{CellExchange, CellLoad, Clear, Clock, Consume, Insert, Load, LockStore, LockTry, Name, PairLoad, Remove, Tell, TryConsume}
use Rattle.slot_table.proofs.Moves.{is_finder, is_setter, some_same}
use Rattle.slot_table.proofs.Phases as phases
use Rattle.slot_table.proofs.Phases.{Fits, Open, StillStands, View, meeting}
use Rattle.soundness.proofs.Counts.{hand_with}
use Rattle.soundness.proofs.Falls.{hit_in_hand}

cleared_at : Step → ℕ
cleared_at (Clear index) = index
cleared_at step = 0

cleared_index : (at index : ℕ) → Clear at ≡ Clear index → at ≡ index
unfolding cleared_at
cleared_index at index is = ap cleared_at is

-- a setter found its word hit at an index and has heard its finder
pub record IsWaiting (index : ℕ) (own : List Record) : Type 0 where
  pub has : HasPart index parts.Hit own
  pub hears : HasHeardFinder index own

-- the step by which a setter hears its finder at an index
pub record Hears (index : ℕ) (hand : Option InHand) (step : Step) (answer : Answer) : Type 0 where
  pub setter : ℕ
  pub finder : ℕ
  pub step_is : step ≡ PairLoad index
  pub answer_is : answer ≡ answers.Halves setter finder
  pub has : hand ≡ Some (record { index = index; part = parts.Hit })
  pub above : 0 < finder

index_in : Option InHand → ℕ
index_in None = 0
index_in (Some hand) = hand.index

pub same_index : (at index : ℕ) (one other : Part) → hand_with at one ≡ hand_with index other → at ≡ index
unfolding index_in
same_index at index one other is = ap index_in is

module _ (index : ℕ) where
  abbrev IsHit : Option InHand → Type 0
  IsHit hand = hand ≡ Some (record { index = index; part = parts.Hit })

  not_hit : (hand : Option InHand) → IsHit hand → hit_in_hand hand ≡ false → ⊥
  not_hit hand has apart = absurd (let both : false ≡ true = sym apart ∙ ap hit_in_hand has in cc)

  -- it is by that step, or it was so before
  waits_since : (step : Step) (answer : Answer) (hand : Option InHand) (halves : Option Halves) (both : Halves) → IsHit (hand_after step answer hand)
      → heard_after index step answer halves ≡ Some both → 0 < both.finder → (IsHit hand × (halves ≡ Some both)) ⊎ Hears index hand step answer
  waits_since (Insert at word) (answers.Flag true) hand halves both has hears above = absurd (not_hit _ has refl)
  waits_since (Insert at word) answer hand halves both has hears above = inl (has, hears)
  waits_since (TryConsume at word) (answers.Flag true) hand halves both has hears above = absurd (not_hit _ has refl)
  waits_since (TryConsume at word) answer hand halves both has hears above = inl (has, hears)
  waits_since (Consume at) (answers.Flag true) hand halves both has hears above = absurd (not_hit _ has refl)
  waits_since (Consume at) (answers.Flag false) hand halves both has hears above =
      let same : at ≡ index = same_index at index parts.Hit parts.Hit has in
      let none : None ≡ Some both = rw (eq-eqb at index same) at hears in absurd (cc)
  waits_since (Consume at) answer hand halves both has hears above = elim (eqb_tells at index) [
    | inl here ↦ let none : None ≡ Some both = rw here.0 at hears in absurd (cc)
    | inr apart ↦ let it : halves ≡ Some both = rw apart.0 at hears in inl (has, it)
  ]
  waits_since (Remove at) answer hand halves both has hears above = absurd (not_hit _ has refl)
  waits_since (PairLoad at) (answers.Halves setter finder) hand halves both has hears above = elim (eqb_tells at index) [
    | inl here ↦
        let it : Some (record { setter = setter; finder = finder }) ≡ Some both = rw here.0 at hears in
        let same : finder ≡ both.finder = ap (λ (b : Halves). b.finder) (some_same it) in
        inr (record {
          setter = setter;
          finder = finder;
          step_is = ap PairLoad here.1;
          answer_is = refl;
          has = has;
          above = omega (arith, same, above);
        })
    | inr apart ↦ let it : halves ≡ Some both = rw apart.0 at hears in inl (has, it)
  ]
  waits_since (PairLoad at) answer hand halves both has hears above = inl (has, hears)
  waits_since (Name at ticket) answer hand halves both has hears above = absurd (not_hit _ has refl)
  waits_since (Tell at ticket) answer hand halves both has hears above = absurd (not_hit _ has refl)
  waits_since (Clear at) answer hand halves both has hears above = absurd (not_hit _ has refl)
  waits_since (Load at) answer hand halves both has hears above = inl (has, hears)
  waits_since (CellLoad cell) answer hand halves both has hears above = inl (has, hears)
  waits_since (CellExchange cell expected new) answer hand halves both has hears above = inl (has, hears)
  waits_since (LockTry lock task) answer hand halves both has hears above = inl (has, hears)
  waits_since (LockStore lock) answer hand halves both has hears above = inl (has, hears)
  waits_since Clock answer hand halves both has hears above = inl (has, hears)

  cleared : (step : Step) (answer : Answer) (hand : Option InHand) → step ≡ Clear index → IsHit (hand_after step answer hand) → ⊥
  cleared step answer hand is has =
      not_hit (hand_after (Clear index) answer hand) (subst (λ (st : Step). IsHit (hand_after st answer hand)) is has) refl

  -- a setter that clears next waits no longer, so it waits by its last step alone
  pub waits_by : (latest : Record) (own : List Record) → ((at : ℕ) → HasPart at parts.Hit own → HasHeardFinder at own → latest.step ≡ Clear at)
      → IsWaiting index (latest ∷ own) → Hears index (in_hand own) latest.step latest.answer
  waits_by latest own clears waits =
      elim (waits_since latest.step latest.answer (in_hand own) (heard index own) waits.hears.0 waits.has waits.hears.1 waits.hears.2) [
        | inl before ↦
            absurd (cleared latest.step latest.answer (in_hand own) (clears index before.0 (waits.hears.0, before.1, waits.hears.2)) waits.has)
        | inr now ↦ now
      ]

  -- so it does once it has heard
  pub waits_now : (latest : Record) (own : List Record) → Hears index (in_hand own) latest.step latest.answer → IsWaiting index (latest ∷ own)
  waits_now latest own now =
      let made : Record = record { task = latest.task; step = PairLoad index; answer = answers.Halves now.setter now.finder } in
      let it : IsWaiting index (made ∷ own) = record {
        has = now.has;
        hears = (record { setter = now.setter; finder = now.finder }, rw (eq-eqb index index refl) refl, now.above);
      } in
      subst (λ (st : Step). IsWaiting index (record { task = latest.task; step = st; answer = latest.answer } ∷ own)) (sym now.step_is)
      (subst (λ (a : Answer). IsWaiting index (record { task = latest.task; step = PairLoad index; answer = a } ∷ own)) (sym now.answer_is) it)

  -- by what a view says who waits is the setter, its finder has told, and nobody has the arming taken
  pub record FinderHasTold (v : View) (task : ℕ) : Type 0 where
    pub number : ℕ
    pub numbered : v.last.number ≡ Some number
    pub met : Meeting
    pub counts : met.number ≡ number
    pub told : v.told ≡ met ∷ v.heard
    pub nobody : (other word : ℕ) → v.part other ≡ Some (parts.Taken word) → ⊥

  told_in : (phase : phases.Phase) (v : View) (h : Open index phase v) (task : ℕ) (both : Halves) → phases.setter_part phase h.word ≡ parts.Hit
      → StillStands both v.pair
      → 0 < both.finder → FinderHasTold v task
  told_in (phases.HitTaken finder ticket) v h task both e stands above =
      let none : v.pair.finder ≡ 0 = ap (λ (pair : Halves). pair.finder) h.pair_is in
      let it : v.pair.finder ≡ both.finder = stands.1 above in absurd (omega (arith, none, it, above))
  told_in (phases.HitTold finder ticket telling) v h task both e stands above = record {
    number = h.number;
    numbered = h.numbered;
    met = meeting index h.number ticket telling;
    counts = refl;
    told = h.told;
    nobody = λ other word taken.
        let apart : other ≢ h.setter = is_finder index (phases.HitTold finder ticket telling) v h other word taken in
        let none : v.part other ≡ None = h.others other apart in absurd (cc);
  }
  told_in phase v h task both e stands above = absurd (cc)

  pub told_of : (v : View) (task : ℕ) (both : Halves) → Fits index v → v.part task ≡ Some parts.Hit → v.hears task ≡ Some both → 0 < both.finder → FinderHasTold v task
  told_of v task both (hears, inl idle) has heard_so above = let none = idle.nobody task in absurd (cc)
  told_of v task both (hears, inr (phase, h)) has heard_so above =
      let it = is_setter index phase v h task parts.Hit has (λ other e. cc) in
      told_in phase v h task both it.1 (hears task parts.Hit both has heard_so) above

  -- there is one setter
  pub one_setter : (v : View) (one other : ℕ) → Fits index v → v.part one ≡ Some parts.Hit → v.part other ≡ Some parts.Hit → one ≡ other
  one_setter v one other (hears, inl idle) first second = let none = idle.nobody one in absurd (cc)
  one_setter v one other (hears, inr (phase, h)) first second =
      let it = is_setter index phase v h one parts.Hit first (λ w e. cc) in
      let its = is_setter index phase v h other parts.Hit second (λ w e. cc) in it.0 ∙ sym its.0

  -- what setters heard there grows by the clear of one whose word was hit
  heard_more : (part : Option Part) (last : Option ℕ) (both : Option Halves) (before : List Meeting)
      → ((heard_from index part last both before ≡ before) × (part ≢ Some parts.Hit)) ⊎ (part ≡ Some parts.Hit)
  heard_more None last both before = inl (refl, λ e. cc)
  heard_more (Some parts.Hit) last both before = inr refl
  heard_more (Some (parts.Inserted word)) last both before = inl (refl, λ e. cc)
  heard_more (Some (parts.Named ticket)) last both before = inl (refl, λ e. cc)
  heard_more (Some parts.Untouched) last both before = inl (refl, λ e. cc)
  heard_more (Some parts.Cleared) last both before = inl (refl, λ e. cc)
  heard_more (Some (parts.Taken word)) last both before = inl (refl, λ e. cc)

  heard_elsewhere : (at : ℕ) (part : Option Part) (last : Option ℕ) (both : Option Halves) (before : List Meeting) → (at == index) ≡ false
      → meetings_at index (heard_from at part last both before) ≡ meetings_at index before
  heard_elsewhere at (Some parts.Hit) (Some number) (Some both) before apart = rw apart refl
  heard_elsewhere at part last both before apart = refl

  pub record Unheard (task : ℕ) (step : Step) (earlier : List Record) (before : List Meeting) : Type 0 where
    pub same : meetings_at index (heard_by task step earlier before) ≡ meetings_at index before
    pub apart : step ≡ Clear index → part_at index (in_hand (records_of task earlier)) ≢ Some parts.Hit

  pub heard_so : (task : ℕ) (step : Step) (earlier : List Record) (before : List Meeting)
      → Unheard task step earlier before ⊎ ((step ≡ Clear index) × (part_at index (in_hand (records_of task earlier)) ≡ Some parts.Hit))
  heard_so task (Clear at) earlier before =
      let own : List Record = records_of task earlier in
      elim (eqb_tells at index) [
        | inl here ↦ elim (heard_more (part_at index (in_hand own)) (last_arming_number index earlier) (heard index own) before) [
          | inl other ↦ inl (record {
            same = subst (λ (i : ℕ). meetings_at index (heard_by task (Clear i) earlier before) ≡ meetings_at index before) (sym here.1)
                (ap (λ (l : List Meeting). meetings_at index l) other.0);
            apart = λ is. other.1;
          })
          | inr hit ↦ inr (ap Clear here.1, hit)
        ]
        | inr apart ↦ inl (record {
          same = heard_elsewhere at (part_at at (in_hand own)) (last_arming_number at earlier) (heard at own) before apart.0;
          apart = λ is. absurd (apart.1 (cleared_index at index is));
        })
      ]
  heard_so task step earlier before = inl (record { same = refl; apart = λ is. absurd (cc) })

  -- what finders told there grows by a tell there
  told_elsewhere : (at ticket : ℕ) (last : Option ℕ) (both : Option Halves) (before : List Meeting) → (at == index) ≡ false
      → meetings_at index (told_to at ticket last both before) ≡ meetings_at index before
  told_elsewhere at ticket (Some number) (Some both) before apart = rw apart refl
  told_elsewhere at ticket last both before apart = refl

  pub told_so : (task : ℕ) (step : Step) (earlier : List Record) (before : List Meeting)
      → (meetings_at index (told_by task step earlier before) ≡ meetings_at index before) ⊎ ((ticket : ℕ) × (step ≡ Tell index ticket))
  told_so task (Tell at ticket) earlier before = elim (eqb_tells at index) [
    | inl here ↦ inr (ticket, ap (λ (i : ℕ). Tell i ticket) here.1)
    | inr apart ↦ inl (told_elsewhere at ticket (last_arming_number at earlier) (heard at (records_of task earlier)) before apart.0)
  ]
  told_so task step earlier before = inl refl
