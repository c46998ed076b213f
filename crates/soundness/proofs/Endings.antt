-- A taking that nobody has in hand any more was told, and its setter has heard of it.
use Rattle.std.proofs.Common.{◌≡◌, ◌≢◌, ◌≤◌, ◌==◌, ◌⊎◌, ◌+◌, ◌∙◌, ◌∷◌, [], inl, inr, ℕ, Bool, true, false, List, Option, None, Some, ap, arith, cond, length, refl, subst, sym}
use Rattle.std.specs.Option.{option_map}
use Rattle.std.proofs.lemmas.Bool.{eq-eqb}
use Rattle.std.proofs.lemmas.Bool.Decides.{eqb_tells}
use Rattle.slot.specs.Pair.{Halves}
use Rattle.slot_table.specs.Armings.{finder_at, last_arming_number, number_after, taken_after}
use Rattle.slot_table.specs.Discipline.{Allows, HasHeardSetter, HasPart, hand_after, heard, in_hand, part_at}
use Rattle.slot_table.specs.Hearings.{IsTaking, SomeRecord}
use Rattle.slot_table.specs.Meetings.{Meeting, finders_told, meetings_at, told_by, told_to}
use Rattle.slot_table.specs.Records.{records_of}
use Rattle.slot_table.specs.Roles.{part_of}
use Rattle.slot_table.specs.declared.discipline.InHand.{InHand}
use Rattle.slot_table.specs.declared.discipline.Part.{Part}
use Rattle.slot_table.specs.declared.discipline.Part.TheVariants as parts
use Rattle.slot_table.specs.declared.records.Record.{Record}
use Rattle.slot_table.specs.declared.step.Answer.{Answer}
use Rattle.slot_table.specs.declared.step.Answer.TheVariants as answers
use Rattle.slot_table.specs.declared.step.Step.{Step}
use Rattle.slot_table.specs.declared.step.Step.TheVariants.{CellExchange, CellLoad, Clear, Clock, Consume, Insert, Load, LockStore, LockTry, Name, PairLoad, Remove, Tell, TryConsume}
use Rattle.slot_table.proofs.Lists.{Keeps, allowed_at, fits_all, keeps_before, view_of}
use Rattle.slot_table.proofs.Moves.{is_finder, some_same}
use Rattle.slot_table.proofs.Phases as phases
use Rattle.slot_table.proofs.Phases.{Fits, Open, View, finder_in, finder_part}
use Rattle.slot_table.proofs.Steps.{here_part}
use Rattle.executions.specs.execution.Observed.{armed_by, armed_in}
use Rattle.executions.proofs.execution.OwnLasts.{own_latest}
use Rattle.soundness.specs.Takings.{IsTakingOver}
use Rattle.soundness.proofs.Counts.{fewer_of, hand_with, stands_once, times, times_more}
use Rattle.soundness.proofs.Waiting.{same_index}

is_taken : Option InHand → Bool
is_taken None = false
is_taken (Some hand) = of_part hand.part
  where
    of_part : Part → Bool
    of_part (parts.Taken word) = true
    of_part part = false

module _ (index : ℕ) where
  -- a finder that has not told makes no step of another handshake, and leaves it by its tell alone
  abbrev Stays : Step → Answer → Option InHand → ℕ → Option ℕ → Type 0
  Stays step answer hand k last = (hand_after step answer hand ≡ hand) × (number_after index step answer k last ≡ last)

  not_taken : (own : List Record) (word at : ℕ) (part : Part) → HasPart index (parts.Taken word) own → HasPart at part own
      → is_taken (hand_with at part) ≡ false → ⊥
  unfolding is_taken
  not_taken own word at part has other apart = absurd (let both : false ≡ true = sym apart ∙ (ap is_taken (sym other) ∙ ap is_taken has) in cc)

  not_idle : (own : List Record) (word : ℕ) → HasPart index (parts.Taken word) own → in_hand own ≡ None → ⊥
  unfolding is_taken
  not_idle own word has idle = absurd (let both : false ≡ true = ap is_taken (sym idle) ∙ ap is_taken has in cc)

  untold_step : (task : ℕ) (own : List Record) (word : ℕ) (step : Step) (answer : Answer) (k : ℕ) (last : Option ℕ) → Allows task own step
      → HasPart index (parts.Taken word) own
      → Stays step answer (in_hand own) k last ⊎ ((ticket : ℕ) × (step ≡ Tell index ticket) × HasHeardSetter index own)
  unfolding is_taken
  untold_step task own word (Load at) answer k last allowed has = inl (refl, refl)
  untold_step task own word (Insert at w) answer k last allowed has = absurd (not_idle own word has allowed.1)
  untold_step task own word (TryConsume at w) answer k last allowed has = absurd (not_idle own word has allowed.2)
  untold_step task own word (Consume at) answer k last allowed has = absurd (not_taken own word at (parts.Named allowed.0) has allowed.1 refl)
  untold_step task own word (Remove at) answer k last allowed has = absurd (not_taken own word at parts.Cleared has allowed refl)
  untold_step task own word (PairLoad at) answer k last allowed has = inl (refl, refl)
  untold_step task own word (Name at ticket) answer k last allowed has = absurd (not_taken own word at (parts.Inserted allowed.1) has allowed.2 refl)
  untold_step task own word (Tell at ticket) answer k last allowed has =
      let same : at ≡ index = same_index at index (parts.Taken allowed.1.0) (parts.Taken word) (sym allowed.1.1 ∙ has) in
      inr (ticket, ap (λ (i : ℕ). Tell i ticket) same, subst (λ (i : ℕ). HasHeardSetter i own) same allowed.2)
  untold_step task own word (Clear at) answer k last allowed has = elim allowed [
    | inl untouched ↦ absurd (not_taken own word at parts.Untouched has untouched refl)
    | inr hit ↦ absurd (not_taken own word at parts.Hit has hit.0 refl)
  ]
  untold_step task own word (CellLoad cell) answer k last allowed has = inl (refl, refl)
  untold_step task own word (CellExchange cell expected new) answer k last allowed has = inl (refl, refl)
  untold_step task own word (LockTry lock holder) answer k last allowed has = inl (refl, refl)
  untold_step task own word (LockStore lock) answer k last allowed has = inl (refl, refl)
  untold_step task own word Clock answer k last allowed has = absurd (not_idle own word has allowed)

  -- an arming at the index is a new one
  armed_anew : (step : Step) (answer : Answer) (k : ℕ) (last : Option ℕ)
      → (number_after index step answer k last ≡ last) ⊎ ((word : ℕ) × (step ≡ Insert index word) × (answer ≡ answers.Flag true))
  armed_anew (Insert at word) (answers.Flag true) k last = elim (eqb_tells at index) [
    | inl here ↦ inr (word, ap (λ (i : ℕ). Insert i word) here.1, refl)
    | inr apart ↦ inl (rw apart.0 refl)
  ]
  armed_anew step answer k last = inl refl

  -- who has taken an arming is its finder
  taken_phase : (phase : phases.Phase) (word task : ℕ) (part : Part) → finder_part phase word task ≡ Some part → (finder : ℕ) × (finder_in phase ≡ Some finder)
  taken_phase (phases.FreshTaken finder) word task part is = (finder, refl)
  taken_phase (phases.NamedTaken finder ticket) word task part is = (finder, refl)
  taken_phase (phases.HitTaken finder ticket) word task part is = (finder, refl)
  taken_phase phase word task part is = absurd (cc)

  unfound : (v : View) (finder word : ℕ) → Fits index v → v.part finder ≡ Some (parts.Taken word) → v.last.finder ≡ None → ⊥
  unfound v finder word (hears, inl idle) taken none = let nobody = idle.nobody finder in absurd (cc)
  unfound v finder word (hears, inr (phase, h)) taken none =
      let apart : finder ≢ h.setter = is_finder index phase v h finder word taken in
      let found = taken_phase phase h.word finder (parts.Taken word) (sym (h.others finder apart) ∙ taken) in
      let both : None ≡ Some found.0 = sym none ∙ (h.finder ∙ found.1) in absurd (cc)

  -- what was told stays told
  told_grows : (n ticket at : ℕ) (last : Option ℕ) (halves : Option Halves) (before : List Meeting)
      → times n (meetings_at index before) ≤ times n (meetings_at index (told_to at ticket last halves before))
  told_grows n ticket at (Some number) (Some both) before =
      let met : Meeting = record { index = at; number = number; setter = both.setter; finder = ticket } in
      fewer_of (met.number == n) (met.index == index) met n index before refl refl
  told_grows n ticket at None halves before = omega arith
  told_grows n ticket at (Some number) None before = omega arith

  told_more : (n task : ℕ) (step : Step) (earlier : List Record) (before : List Meeting)
      → times n (meetings_at index before) ≤ times n (meetings_at index (told_by task step earlier before))
  told_more n task (Tell at ticket) earlier before = told_grows n ticket at (last_arming_number at earlier) (heard at (records_of task earlier)) before
  told_more n task step earlier before = omega arith

  told_now : (n ticket : ℕ) (last : Option ℕ) (halves : Option Halves) (before : List Meeting) (both : Halves) → last ≡ Some n → halves ≡ Some both
      → 1 ≤ times n (meetings_at index (told_to index ticket last halves before))
  told_now n ticket last halves before both last_is halves_is =
      let met : Meeting = record { index = index; number = n; setter = both.setter; finder = ticket } in
      let all : told_to index ticket last halves before ≡ met ∷ before =
      ap (λ (l : Option ℕ). told_to index ticket l halves before) last_is ∙ ap (λ (h : Option Halves). told_to index ticket (Some n) h before) halves_is in
      subst (λ (l : List Meeting). 1 ≤ times n (meetings_at index l)) (sym all) (stands_once (met ∷ before) met (0, omega arith, refl))

  -- who has a part at the index has it in hand
  part_held : (hand : Option InHand) (part : Part) → part_at index hand ≡ Some part → hand ≡ hand_with index part
  part_held None part is = absurd (cc)
  part_held (Some hand) part is = elim (eqb_tells hand.index index) [
    | inl here ↦
        let it : Some hand.part ≡ Some part = rw here.0 at is in
        ap (λ (i : ℕ). hand_with i hand.part) here.1 ∙ ap (hand_with index) (some_same it)
    | inr apart ↦ let none : None ≡ Some part = rw apart.0 at is in absurd (cc)
  ]

  -- all that was told was heard, but what the setter of the open arming has in hand
  record Unheard (v : View) : Type 0 where
    setter : ℕ
    part : Part
    has : v.part setter ≡ Some part
    number : ℕ
    numbered : v.last.number ≡ Some number
    met : Meeting
    counts : met.number ≡ number
    told : v.told ≡ met ∷ v.heard

  all_heard : (v : View) → Fits index v → (v.told ≡ v.heard) ⊎ Unheard v
  all_heard v (hears, inl idle) = inl idle.told
  all_heard v (hears, inr (phase, h)) = by_phase phase h
    where
      by_phase : (phase : phases.Phase) → Open index phase v → (v.told ≡ v.heard) ⊎ Unheard v
      by_phase (phases.NamedTold finder ticket telling) h = inr (record {
        setter = h.setter;
        part = parts.Named ticket;
        has = h.sets;
        number = h.number;
        numbered = h.numbered;
        met = phases.meeting index h.number ticket telling;
        counts = refl;
        told = h.told;
      })
      by_phase (phases.HitTold finder ticket telling) h = inr (record {
        setter = h.setter;
        part = parts.Hit;
        has = h.sets;
        number = h.number;
        numbered = h.numbered;
        met = phases.meeting index h.number ticket telling;
        counts = refl;
        told = h.told;
      })
      by_phase phase h = inl h.told

  module _ (page_slots locks : ℕ) (cells : List ℕ) (n finder : ℕ) where
    abbrev Rules : List Record → Type 0
    Rules records = Keeps page_slots locks cells records

    abbrev view_at : List Record → View
    view_at records = view_of page_slots locks cells records index

    record IsUntold (records : List Record) : Type 0 where
      word : ℕ
      has : HasPart index (parts.Taken word) (records_of finder records)
      last : last_arming_number index records ≡ Some n

    abbrev IsTold : List Record → Type 0
    IsTold records = 1 ≤ times n (meetings_at index (finders_told records))

    -- a record of the finder
    own_record : (latest : Record) (earlier : List Record) → Rules (latest ∷ earlier) → latest.task ≡ finder → IsUntold earlier
        → IsTold (latest ∷ earlier) ⊎ IsUntold (latest ∷ earlier)
    own_record latest earlier rules mine untold =
        let own : List Record = records_of finder earlier in
        let now : records_of finder (latest ∷ earlier) ≡ latest ∷ own = own_latest finder latest earlier mine in
        let allowed : Allows finder own latest.step =
        subst (λ (t : ℕ). Allows t (records_of t earlier) latest.step) mine (allowed_at latest earlier rules.keeps) in
        elim (untold_step finder own untold.word latest.step latest.answer (length earlier) (last_arming_number index earlier) allowed untold.has) [
          | inl stays ↦ inr (record { word = untold.word; has = ap in_hand now ∙ (stays.0 ∙ untold.has); last = stays.1 ∙ untold.last })
          | inr tells ↦
              let told : 1 ≤ times n (meetings_at index (told_by finder (Tell index tells.0) earlier (finders_told earlier))) =
              told_now n tells.0 (last_arming_number index earlier) (heard index own) (finders_told earlier) tells.2.0 untold.last tells.2.1 in
              let by_step : 1 ≤ times n (meetings_at index (told_by finder latest.step earlier (finders_told earlier))) =
              subst (λ (st : Step). 1 ≤ times n (meetings_at index (told_by finder st earlier (finders_told earlier)))) (sym tells.1) told in
              inl (subst (λ (t : ℕ). 1 ≤ times n (meetings_at index (told_by t latest.step earlier (finders_told earlier)))) (sym mine) by_step)
        ]

    -- a record of another task
    other_record : (latest : Record) (earlier : List Record) → Rules (latest ∷ earlier) → (latest.task == finder) ≡ false → IsUntold earlier
        → IsUntold (latest ∷ earlier)
    other_record latest earlier rules apart untold =
        let same : records_of finder (latest ∷ earlier) ≡ records_of finder earlier = rw apart refl in
        let has : HasPart index (parts.Taken untold.word) (records_of finder (latest ∷ earlier)) = ap in_hand same ∙ untold.has in
        elim (armed_anew latest.step latest.answer (length earlier) (last_arming_number index earlier)) [
          | inl kept ↦ record { word = untold.word; has = has; last = kept ∙ untold.last }
          | inr anew ↦
              let part : part_of finder index (latest ∷ earlier) ≡ Some (parts.Taken untold.word) =
              here_part index (in_hand (records_of finder (latest ∷ earlier))) (parts.Taken untold.word) has in
              let inserted : taken_after index latest.task (Insert index anew.0) (answers.Flag true) (finder_at index earlier) ≡ None =
              rw (eq-eqb index index refl) refl in
              let none : finder_at index (latest ∷ earlier) ≡ None =
              ap (λ (st : Step). taken_after index latest.task st latest.answer (finder_at index earlier)) anew.1
              ∙ (ap (λ (a : Answer). taken_after index latest.task (Insert index anew.0) a (finder_at index earlier)) anew.2 ∙ inserted) in
              absurd (unfound (view_at (latest ∷ earlier)) finder untold.word (fits_all page_slots locks cells (latest ∷ earlier) rules index) part none)
        ]

    -- a taking is told, or its finder has it in hand
    told_or_not : (records : List Record) (word : ℕ) → Rules records → SomeRecord (IsTaking index n finder word) records → IsTold records ⊎ IsUntold records
    told_or_not [] word rules taken = absurd taken
    told_or_not (latest ∷ earlier) word rules (inl here) =
        let own : List Record = records_of finder earlier in inr (record {
          word = word;
          has = ap in_hand (own_latest finder latest earlier here.task)
              ∙ (ap (λ (st : Step). hand_after st latest.answer (in_hand own)) here.step
              ∙ ap (λ (a : Answer). hand_after (TryConsume index word) a (in_hand own)) here.answer);
          last = ap (λ (st : Step). number_after index st latest.answer (length earlier) (last_arming_number index earlier)) here.step ∙ here.last;
        })
    told_or_not (latest ∷ earlier) word rules (inr before) =
        elim (told_or_not earlier word (keeps_before page_slots locks cells latest earlier rules) before) [
          | inl told ↦ inl (let more = told_more n latest.task latest.step earlier (finders_told earlier) in omega (arith, told, more))
          | inr untold ↦ elim (eqb_tells latest.task finder) [
            | inl mine ↦ own_record latest earlier rules mine.1 untold
            | inr others ↦ inr (other_record latest earlier rules others.0 untold)
          ]
        ]

    armed_with : (task : ℕ) (part : Part) (records : List Record) (number : ℕ) → HasPart index part (records_of task records)
        → last_arming_number index records ≡ Some number
        → armed_by task records ≡ Some (record { index = index; number = number })
    armed_with task part records number has last =
        ap (λ (hand : Option InHand). armed_in hand records) has
        ∙ ap (λ (l : Option ℕ). option_map (λ (x : ℕ). record { index = index; number = x }) l) last

    -- one that nobody has in hand was heard by its setter
    pub heard_of : (records : List Record) (word : ℕ) → Rules records → SomeRecord (IsTaking index n finder word) records → IsTakingOver index n records
        → 1 ≤ times n (view_at records).heard
    heard_of records word rules taken over = elim (told_or_not records word rules taken) [
      | inr untold ↦ absurd (over finder (armed_with finder (parts.Taken untold.word) records n untold.has untold.last))
      | inl told ↦ elim (all_heard (view_at records) (fits_all page_slots locks cells records rules index)) [
        | inl all ↦ subst (λ (l : List Meeting). 1 ≤ times n l) all told
        | inr one ↦ elim (eqb_tells one.number n) [
          | inl same ↦
              let has : HasPart index one.part (records_of one.setter records) = part_held (in_hand (records_of one.setter records)) one.part one.has in
              absurd (over one.setter (armed_with one.setter one.part records n has (one.numbered ∙ ap Some same.1)))
          | inr apart ↦
              let so_many : times n (view_at records).told ≡ cond (one.number == n) 1 0 + times n (view_at records).heard =
              ap (times n) one.told ∙ times_more n one.number one.met (view_at records).heard one.counts in
              let all : times n (view_at records).told ≡ 0 + times n (view_at records).heard = rw apart.0 at so_many in omega (arith, told, all)
        ]
      ]
    ]

-- after a step of the clock its task has nothing in hand
pub timed : (page_slots locks : ℕ) (cells : List ℕ) (latest : Record) (earlier : List Record) → Keeps page_slots locks cells (latest ∷ earlier)
    → latest.step ≡ Clock → armed_by latest.task (latest ∷ earlier) ≡ None
timed page_slots locks cells latest earlier rules clock =
    let own : List Record = records_of latest.task earlier in
    let idle : in_hand own ≡ None = subst (λ (st : Step). Allows latest.task own st) clock (allowed_at latest earlier rules.keeps) in
    let now : in_hand (records_of latest.task (latest ∷ earlier)) ≡ None =
    ap in_hand (own_latest latest.task latest earlier refl)
    ∙ (ap (λ (st : Step). hand_after st latest.answer (in_hand own)) clock ∙ idle) in
    ap (λ (hand : Option InHand). armed_in hand (latest ∷ earlier)) now
