-- Each taking that its setter heard of has one answer: by induction on the list, index by index.
use Rattle.std.proofs.Common.{◌≡◌, ◌≢◌, ◌≤◌, ◌==◌, ◌⊎◌, ◌+◌, ◌∙◌, ◌∷◌, ◌++◌, [], inl, inr}
use Rattle.std.proofs.Common.{ℕ, true, false, List, Option, Some, Contains, ap, append_assoc, arith, cond, length, map, refl, subst, sym}
use Rattle.std.specs.Option.{option_map}
use Rattle.std.proofs.lemmas.Bool.{eq-eqb}
use Rattle.std.proofs.lemmas.Bool.Decides.{eqb_tells}
use Rattle.std.proofs.lemmas.List.{length-append}
use Rattle.std.proofs.lemmas.List.Elements.{filter-append}
use Rattle.setup_access.specs.Check.{Fallen}
use Rattle.setup_access.specs.declared.outcome.Outcome.{Outcome}
use Rattle.slot.specs.Pair.{Halves}
use Rattle.slot_table.specs.Armings.{last_arming_number}
use Rattle.slot_table.specs.Discipline.{Allows, HasPart, heard, in_hand, part_at}
use Rattle.slot_table.specs.Meetings.{Meeting, finders_told, heard_by, heard_from, meetings_at, setters_heard}
use Rattle.slot_table.specs.Records.{records_of}
use Rattle.slot_table.specs.Roles.{part_of}
use Rattle.slot_table.specs.declared.discipline.InHand.{InHand}
use Rattle.slot_table.specs.declared.discipline.Part.{Part}
use Rattle.slot_table.specs.declared.discipline.Part.TheVariants as parts
use Rattle.slot_table.specs.declared.records.Record.{Record}
use Rattle.slot_table.specs.declared.step.Step.{Step}
use Rattle.slot_table.specs.declared.step.Step.TheVariants.{Clear, PairLoad, Tell}
use Rattle.slot_table.proofs.Lists.{Keeps, allowed_at, fits_all, keeps_before, view_of}
use Rattle.slot_table.proofs.Meetings.{meetings_differ}
use Rattle.slot_table.proofs.Phases.{Fits, View}
use Rattle.slot_table.proofs.Steps.{here_part}
use Rattle.executions.specs.execution.Answers.{is_answer}
use Rattle.executions.specs.execution.Run.{Run, first_cells, locks_of}
use Rattle.executions.specs.execution.Execution.{Execution}
use Rattle.executions.specs.execution.Observed.{Armed, OutcomeAt, armed_by, armed_in, came_next, outcome_at, outcomes_by}
use Rattle.executions.proofs.execution.OwnLasts.{own_latest}
use Rattle.soundness.specs.Takings as spec
use Rattle.soundness.specs.Takings.{HasOneAnswer, answers_to}
use Rattle.soundness.proofs.Counts.{Answered, elsewhere_alone, fell_cases, hand_with, its, none_its, once_at_most, one_its, stands_once, times, times_more, told_covers}
use Rattle.soundness.proofs.Falls.{outcomes_in}
use Rattle.soundness.proofs.Lists.{SettledAt, settled_at}
use Rattle.soundness.proofs.Waiting.{Hears, IsWaiting, FinderHasTold, Unheard, heard_so, one_setter, told_of, told_so, waits_by, waits_now}

loaded_at : Step → ℕ
loaded_at (PairLoad index) = index
loaded_at step = 0

same_load : (at index : ℕ) → PairLoad at ≡ PairLoad index → at ≡ index
unfolding loaded_at
same_load at index is = ap loaded_at is

-- a list of one
one_alone : {X : Type 0} (xs : List X) → length xs ≡ 1 → (x : X) × (xs ≡ x ∷ [])
one_alone [] is = absurd (omega (arith, is))
one_alone (x ∷ []) is = (x, refl)
one_alone (x ∷ y ∷ xs) is = absurd (omega (arith, is))

-- the outcomes of one record that has one
only_one : (here : List Fallen) (outcome : Outcome) → outcomes_in here ≡ outcome ∷ [] → (fallen : Fallen) × (here ≡ fallen ∷ []) × (fallen.outcome ≡ outcome)
only_one [] outcome is = absurd (cc)
only_one (fallen ∷ []) outcome is = (fallen, refl, cc)
only_one (fallen ∷ other ∷ here) outcome is = absurd (cc)

-- what a setter hears with its clear
heard_adds : (index number : ℕ) (both : Halves) (part : Option Part) (last : Option ℕ) (halves : Option Halves) (before : List Meeting)
    → part ≡ Some parts.Hit → last ≡ Some number → halves ≡ Some both → (n : ℕ)
    → times n (meetings_at index (heard_from index part last halves before)) ≡ cond (number == n) 1 0 + times n (meetings_at index before)
heard_adds index number both part last halves before part_is last_is halves_is n =
    let met : Meeting = record { index = index; number = number; setter = both.setter; finder = both.finder } in
    let all : heard_from index part last halves before ≡ met ∷ before =
    ap (λ (p : Option Part). heard_from index p last halves before) part_is
    ∙ (ap (λ (l : Option ℕ). heard_from index (Some parts.Hit) l halves before) last_is
    ∙ ap (λ (h : Option Halves). heard_from index (Some parts.Hit) (Some number) h before) halves_is) in
    let here : meetings_at index (met ∷ before) ≡ met ∷ meetings_at index before = rw (eq-eqb index index refl) refl in
    ap (λ (l : List Meeting). times n (meetings_at index l)) all ∙ (ap (times n) here ∙ times_more n number met (meetings_at index before) refl)

module _ (run : Run) (records : List Record) (list : Execution run records) (rules : Keeps run.rules.slots (locks_of run) (first_cells run) records)
    (index n : ℕ) where
  abbrev Rules : List Record → Type 0
  Rules l = Keeps run.rules.slots (locks_of run) (first_cells run) l

  rules_before : (later earlier : List Record) → Rules (later ++ earlier) → Rules earlier
  rules_before [] earlier kept = kept
  rules_before (latest ∷ later) earlier kept =
      rules_before later earlier (keeps_before run.rules.slots (locks_of run) (first_cells run) latest (later ++ earlier) kept)

  abbrev view_at : List Record → View
  view_at earlier = view_of run.rules.slots (locks_of run) (first_cells run) earlier index

  fits : (earlier : List Record) → Rules earlier → Fits index (view_at earlier)
  fits earlier kept = fits_all run.rules.slots (locks_of run) (first_cells run) earlier kept index

  -- how many answers were told
  abbrev count : List Record → ℕ
  count earlier = length (its index n (outcomes_by list earlier))

  abbrev heard_times : List Record → ℕ
  heard_times earlier = times n (meetings_at index (setters_heard earlier))

  abbrev told_times : List Record → ℕ
  told_times earlier = times n (meetings_at index (finders_told earlier))

  -- a task has heard its finder there, and not cleared
  abbrev Waits : ℕ → List Record → Type 0
  Waits task earlier = IsWaiting index (records_of task earlier)

  -- all that was heard is answered, or all that was told, where a setter waits to clear
  abbrev AreAnswered : List Record → Type 0
  AreAnswered earlier =
      (((task : ℕ) → Waits task earlier → ⊥) × (count earlier ≡ heard_times earlier))
      ⊎ (((task : ℕ) × Waits task earlier) × (count earlier ≡ told_times earlier))

  hit_part : (task : ℕ) (earlier : List Record) → Waits task earlier → part_of task index earlier ≡ Some parts.Hit
  hit_part task earlier waits = here_part index (in_hand (records_of task earlier)) parts.Hit waits.has

  told_by_view : (task : ℕ) (earlier : List Record) → Rules earlier → Waits task earlier → FinderHasTold index (view_at earlier) task
  told_by_view task earlier kept waits =
      told_of index (view_at earlier) task waits.hears.0 (fits earlier kept) (hit_part task earlier waits) waits.hears.1 waits.hears.2

  -- one more record
  module _ (later : List Record) (latest : Record) (earlier : List Record) (is : records ≡ later ++ latest ∷ earlier) where
    abbrev task : ℕ
    task = latest.task

    abbrev own : List Record
    own = records_of task earlier

    now_kept : Rules (latest ∷ earlier)
    now_kept = rules_before later (latest ∷ earlier) (subst Rules is rules)

    kept : Rules earlier
    kept = keeps_before run.rules.slots (locks_of run) (first_cells run) latest earlier now_kept

    allowed : Allows task own latest.step
    allowed = allowed_at latest earlier now_kept.keeps

    settled : SettledAt run records list latest earlier
    settled = settled_at run records list later latest earlier is

    abbrev arming : Option Armed
    arming = armed_by task (latest ∷ earlier)

    -- how many answers it tells
    count_more : (k : ℕ) → length (its index n (map (outcome_at (length earlier) arming) settled.here)) ≡ k → count (latest ∷ earlier) ≡ count earlier + k
    count_more k so_many =
        let came : came_next list latest earlier ≡ map (outcome_at (length earlier) arming) settled.here =
        ap (λ (l : List Fallen). map (outcome_at (length earlier) arming) l) settled.all in
        ap (λ (l : List OutcomeAt). length l) (filter-append (spec.answers index n) (outcomes_by list earlier) (came_next list latest earlier))
        ∙ (length-append (its index n (outcomes_by list earlier)) (its index n (came_next list latest earlier))
        ∙ (ap (λ (l : List OutcomeAt). count earlier + length (its index n l)) came ∙ ap (λ (x : ℕ). count earlier + x) so_many))

    mine : records_of task (latest ∷ earlier) ≡ latest ∷ own
    mine = own_latest task latest earlier refl

    abbrev HearsNow : Type 0
    HearsNow = Hears index (in_hand own) latest.step latest.answer

    -- another task waits as before
    others_same : (other : ℕ) → (task == other) ≡ false → records_of other (latest ∷ earlier) ≡ records_of other earlier
    others_same other apart = rw apart refl

    waits_before : (HearsNow → ⊥) → (other : ℕ) → Waits other (latest ∷ earlier) → Waits other earlier × (task ≢ other)
    waits_before silent other waits = elim (eqb_tells task other) [
      | inl here ↦
          let its_own : IsWaiting index (records_of task (latest ∷ earlier)) =
          subst (λ (t : ℕ). IsWaiting index (records_of t (latest ∷ earlier))) (sym here.1) waits in
          absurd (silent (waits_by index latest own settled.clears (subst (λ (r : List Record). IsWaiting index r) mine its_own)))
      | inr apart ↦ (subst (λ (r : List Record). IsWaiting index r) (others_same other apart.0) waits, apart.1)
    ]

    -- a record by which no setter hears its finder at the index
    quietly : length (its index n (map (outcome_at (length earlier) arming) settled.here)) ≡ 0 → (HearsNow → ⊥) → AreAnswered earlier
        → AreAnswered (latest ∷ earlier)
    quietly none silent before =
        let same : count (latest ∷ earlier) ≡ count earlier = let more = count_more 0 none in omega (arith, more) in
        elim (heard_so index task latest.step earlier (setters_heard earlier)) [
          | inl unheard ↦ unheard_step same unheard before
          | inr clears ↦ clear_step same clears.0 clears.1 before
        ]
      where
        told_same : (other : ℕ) → Waits other earlier → told_times (latest ∷ earlier) ≡ told_times earlier
        told_same other waits = elim (told_so index task latest.step earlier (finders_told earlier)) [
          | inl alike ↦ ap (times n) alike
          | inr tells ↦
              let allows : Allows task own (Tell index tells.0) = subst (λ (st : Step). Allows task own st) tells.1 allowed in
              let taken = here_part index (in_hand own) (parts.Taken allows.1.0) allows.1.1 in
              absurd ((told_by_view other earlier kept waits).nobody task allows.1.0 taken)
        ]

        unheard_step : count (latest ∷ earlier) ≡ count earlier → Unheard index task latest.step earlier (setters_heard earlier) → AreAnswered earlier
            → AreAnswered (latest ∷ earlier)
        unheard_step same unheard (inl (nobody, all)) =
            inl (λ other waits. nobody other (waits_before silent other waits).0, same ∙ (all ∙ sym (ap (times n) unheard.same)))
        unheard_step same unheard (inr ((other, waits), all)) = elim (eqb_tells task other) [
          | inl here ↦
              let its_own : IsWaiting index own = subst (λ (t : ℕ). IsWaiting index (records_of t earlier)) (sym here.1) waits in
              absurd (unheard.apart (settled.clears index its_own.has its_own.hears) (here_part index (in_hand own) parts.Hit its_own.has))
          | inr apart ↦
              inr ((other, subst (λ (r : List Record). IsWaiting index r) (sym (others_same other apart.0)) waits), same ∙ (all ∙ sym (told_same other waits)))
        ]

        heard_now : latest.step ≡ Clear index → (waits : IsWaiting index own) → heard_times (latest ∷ earlier) ≡ told_times earlier
        heard_now step_is waits =
            let told = told_by_view task earlier kept waits in
            let hit : part_at index (in_hand own) ≡ Some parts.Hit = here_part index (in_hand own) parts.Hit waits.has in
            let adds =
            heard_adds index told.number waits.hears.0 (part_at index (in_hand own)) (last_arming_number index earlier) (heard index own)
            (setters_heard earlier)
            hit told.numbered waits.hears.1 n in
            let all : told_times earlier ≡ cond (told.number == n) 1 0 + heard_times earlier =
            ap (times n) told.told ∙ times_more n told.number told.met (meetings_at index (setters_heard earlier)) told.counts in
            ap (λ (st : Step). times n (meetings_at index (heard_by task st earlier (setters_heard earlier)))) step_is ∙ (adds ∙ sym all)

        clear_step : count (latest ∷ earlier) ≡ count earlier → latest.step ≡ Clear index → part_at index (in_hand own) ≡ Some parts.Hit → AreAnswered earlier
            → AreAnswered (latest ∷ earlier)
        clear_step same step_is hit before =
            let allows : Allows task own (Clear index) = subst (λ (st : Step). Allows task own st) step_is allowed in
            elim allows [
              | inl untouched ↦
                  let other : part_at index (in_hand own) ≡ Some parts.Untouched = here_part index (in_hand own) parts.Untouched untouched in
                  absurd (let both : Some parts.Untouched ≡ Some parts.Hit = sym other ∙ hit in cc)
              | inr so ↦
                  let waits : IsWaiting index own = record { has = so.0; hears = so.1 } in
                  elim before [
                    | inl none_waits ↦ absurd (none_waits.0 task waits)
                    | inr some_waits ↦ inl (
                      λ other waits_other.
                          let earlier_so = waits_before silent other waits_other in
                          earlier_so.1 (one_setter index (view_at earlier) task other (fits earlier kept) (hit_part task earlier waits)
                          (hit_part other earlier earlier_so.0)),
                      same ∙ (some_waits.1 ∙ sym (heard_now step_is waits)),
                    )
                  ]
            ]

    -- a record by which a setter hears its finder at the index
    hearing : (now : HearsNow) (outcome : Outcome) → outcomes_in settled.here ≡ outcome ∷ [] → is_answer outcome ≡ true → AreAnswered earlier
        → AreAnswered (latest ∷ earlier)
    hearing now outcome only answers before =
        let clears_not : latest.step ≡ Clear index → ⊥ = λ step_is. absurd (let both : PairLoad index ≡ Clear index = sym now.step_is ∙ step_is in cc) in
        let own_part : part_of task index earlier ≡ Some parts.Hit = here_part index (in_hand own) parts.Hit now.has in
        let nobody : (other : ℕ) → Waits other earlier → ⊥ =
        λ other waits.
        let same : other ≡ task = one_setter index (view_at earlier) other task (fits earlier kept) (hit_part other earlier waits) own_part in
        let its_own : IsWaiting index own = subst (λ (t : ℕ). IsWaiting index (records_of t earlier)) same waits in
        clears_not (settled.clears index its_own.has its_own.hears) in
        let waits : Waits task (latest ∷ earlier) = subst (λ (r : List Record). IsWaiting index r) (sym mine) (waits_now index latest own now) in
        let told = told_by_view task (latest ∷ earlier) now_kept waits in
        let armed : arming ≡ Some (record { index = index; number = told.number }) =
        ap (λ (hand : Option InHand). armed_in hand (latest ∷ earlier)) waits.has
        ∙ ap (λ (l : Option ℕ). option_map (λ (x : ℕ). record { index = index; number = x }) l) told.numbered in
        let heard_same : heard_times (latest ∷ earlier) ≡ heard_times earlier =
        ap (λ (st : Step). times n (meetings_at index (heard_by task st earlier (setters_heard earlier)))) now.step_is in
        let told_now : told_times (latest ∷ earlier) ≡ cond (told.number == n) 1 0 + heard_times (latest ∷ earlier) =
        ap (times n) told.told ∙ times_more n told.number told.met (meetings_at index (setters_heard (latest ∷ earlier))) told.counts in
        let one = only_one settled.here outcome only in
        let so_many : length (its index n (map (outcome_at (length earlier) arming) settled.here)) ≡ cond (told.number == n) 1 0 =
        ap (λ (l : List Fallen). length (its index n (map (outcome_at (length earlier) arming) l))) one.1
        ∙ (ap (λ (a : Option Armed). length (its index n (outcome_at (length earlier) a one.0 ∷ []))) armed
        ∙ one_its index n (length earlier) told.number one.0 (ap is_answer one.2 ∙ answers)) in
        let more = count_more (cond (told.number == n) 1 0) so_many in
        elim before [
          | inl none_waits ↦
              let all : count earlier ≡ heard_times earlier = none_waits.1 in
              inr ((task, waits), omega (arith, more, all, heard_same, told_now))
          | inr some_waits ↦ absurd (nobody some_waits.0.0 some_waits.0.1)
        ]

    one_more : AreAnswered earlier → AreAnswered (latest ∷ earlier)
    one_more before = elim (fell_cases (in_hand own) latest.step latest.answer (outcomes_in settled.here) settled.settles) [
      | inl none ↦
          quietly (ap (λ (l : List OutcomeAt). length l) (none_its index n (length earlier) arming settled.here none.none))
          (λ now. none.silent index now.setter now.finder now.step_is now.answer_is now.has now.above) before
      | inr some ↦ elim (eqb_tells some.index index) [
        | inl here ↦ hearing (record {
          setter = some.setter;
          finder = some.finder;
          step_is = some.step_is ∙ ap PairLoad here.1;
          answer_is = some.answer_is;
          has = some.has ∙ ap (λ (i : ℕ). hand_with i parts.Hit) here.1;
          above = some.above;
        }) some.outcome some.only some.answers before
        | inr apart ↦ quietly (elsewhere some apart.1) (λ now. apart.1 (same_load some.index index (sym some.step_is ∙ now.step_is))) before
      ]
    ]
      where
        elsewhere : (some : Answered (in_hand own) latest.step latest.answer (outcomes_in settled.here)) → some.index ≢ index
            → length (its index n (map (outcome_at (length earlier) arming) settled.here)) ≡ 0
        elsewhere some apart =
            let one = only_one settled.here some.outcome some.only in
            let now : Hears some.index (in_hand own) latest.step latest.answer = record {
              setter = some.setter;
              finder = some.finder;
              step_is = some.step_is;
              answer_is = some.answer_is;
              has = some.has;
              above = some.above;
            } in
            let waits : IsWaiting some.index (records_of task (latest ∷ earlier)) =
            subst (λ (r : List Record). IsWaiting some.index r) (sym mine) (waits_now some.index latest own now) in
            ap (λ (l : List Fallen). length (its index n (map (outcome_at (length earlier) arming) l))) one.1
            ∙ elsewhere_alone index n (length earlier) arming some.index (last_arming_number some.index (latest ∷ earlier)) one.0 apart
            (ap (λ (hand : Option InHand). armed_in hand (latest ∷ earlier)) waits.has)

  all_by : (later earlier : List Record) → records ≡ later ++ earlier → AreAnswered earlier
  all_by later [] is = inl (λ task waits. let none : HasPart index parts.Hit [] = waits.has in absurd (cc), refl)
  all_by later (latest ∷ earlier) is =
      one_more later latest earlier is (all_by (later ++ latest ∷ []) earlier (is ∙ sym (append_assoc later (latest ∷ []) earlier)))

  -- an arming of which its setter heard has one answer
  pub answered_once : 1 ≤ heard_times records → (answer : OutcomeAt) × (answers_to list index n ≡ answer ∷ [])
  answered_once stands =
      let fewer = told_covers n index (view_at records) (fits records rules) in
      let most = once_at_most (finders_told records) n index (meetings_differ run.rules.slots (locks_of run) (first_cells run) records rules) in
      one_alone (answers_to list index n) (elim (all_by [] records refl) [
        | inl none_waits ↦ let all : count records ≡ heard_times records = none_waits.1 in omega (arith, all, stands, fewer, most)
        | inr some_waits ↦ let all : count records ≡ told_times records = some_waits.1 in omega (arith, all, stands, fewer, most)
      ])

pub is_answered : (run : Run) (records : List Record) (list : Execution run records) → Keeps run.rules.slots (locks_of run) (first_cells run) records
    → (index number : ℕ) → 1 ≤ times number (meetings_at index (setters_heard records)) → HasOneAnswer list index number
is_answered run records list rules index number stands =
    let it = answered_once run records list rules index number stands in record { answer = it.0; only = it.1 }

pub has_one_answer : (run : Run) (records : List Record) (list : Execution run records) → Keeps run.rules.slots (locks_of run) (first_cells run) records
    → (met : Meeting) → Contains (setters_heard records) met → HasOneAnswer list met.index met.number
has_one_answer run records list rules met stands =
    is_answered run records list rules met.index met.number (stands_once (setters_heard records) met stands)
