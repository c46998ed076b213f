-- At which of a check's own records its outcomes fall. Each lemma is told how to go on.
use Rattle.std.proofs.Common.{◌≡◌, ◌<◌, ◌+◌, ◌∙◌, ◌∷◌, ◌++◌, ◌||◌, [], ℕ, zero, suc, Bool, true, false, List, Option, None, Some, MatchBool, MatchOption, ap, arith, inl, inr, map, refl, subst, sym}
use Rattle.std.proofs.lemmas.Bool.{eq-eqb}
use Rattle.access_types.specs.Access.{Access}
use Rattle.access_types.specs.Ticket.{ticket_number}
use Rattle.slot.specs.Pair.{Halves}
use Rattle.slot_table.specs.Discipline.{HasHeardFinder, HasPart, heard, in_hand}
use Rattle.slot_table.specs.declared.discipline.InHand.{InHand}
use Rattle.slot_table.specs.declared.discipline.Part.{Part}
use Rattle.slot_table.specs.declared.discipline.Part.TheVariants as parts
use Rattle.slot_table.specs.declared.records.Record.{Record}
use Rattle.slot_table.specs.declared.step.Answer.TheVariants as answers
use Rattle.slot_table.specs.declared.step.Step.{Step}
use Rattle.slot_table.specs.declared.step.Step.TheVariants.{CellLoad, Clear, Clock, Consume, Insert, Load, Name, PairLoad, Remove, Tell, TryConsume}
use Rattle.slot_table.proofs.Moves.{some_same}
use Rattle.watch_word.specs.Word.{word_of}
use Rattle.setup_access.specs.Check as cases
use Rattle.setup_access.specs.Check.{Check, ChecksOnce, Close, Ends, Fallen, GoesOn, NoneFound, Pass, Passes, Rechecks, fallen_of, left_to_check}
use Rattle.setup_access.specs.Find.{LooksUp}
use Rattle.setup_access.specs.Found.{Hears, Takes, FinderTells, finder_half, setter_half}
use Rattle.setup_access.specs.Parts.{made}
use Rattle.setup_access.specs.Records.{MakesDone, MakesFlag, MakesWord}
use Rattle.setup_access.specs.Setting.{Setting, slot_of}
use Rattle.setup_access.specs.Setup.{Arms, Frees, Judged, TriesInsert, WatchesAt}
use Rattle.setup_access.specs.Values.{LoadsFrom, both_values, source_of}
use Rattle.setup_access.specs.Verdicts as verdicts
use Rattle.setup_access.specs.Verdicts.{HitOutcome, UntouchedOutcome}
use Rattle.setup_access.specs.declared.begun.Begun.{Begun}
use Rattle.setup_access.specs.declared.outcome.Outcome.{Outcome}
use Rattle.setup_access.specs.declared.outcome.Outcome.TheVariants as outcomes
use Rattle.setup_access.specs.declared.outcome.Watchpoint.{Watchpoint}
use Rattle.setup_access.specs.declared.source.Source.{Source}
use Rattle.setup_access.proofs.DisciplineLemmas.{on_flag, on_halves, on_word, record_is}
use Rattle.soundness.specs.Settles.{AnswersTo, IsUntouched, IsUnwatched, Settles, TellsOf, hears_finder, is_hit}

-- these outcomes fell at the record before these
abbrev pub AllBefore : List Record → List Fallen → Type 0
AllBefore later [] = Unit {0}
AllBefore later (fallen ∷ others) = (fallen.later ≡ later) × AllBefore later others

abbrev pub outcomes_in : List Fallen → List Outcome
outcomes_in here = map (λ fallen. fallen.outcome) here

-- a setter that has heard its finder clears
abbrev pub ClearsNext : List Record → Step → Type 0
ClearsNext own step = (index : ℕ) → HasPart index parts.Hit own → HasHeardFinder index own → step ≡ Clear index

-- these outcomes fall at these records of a task, which follow on its own ones
abbrev pub Falls : List Record → List Record → List Fallen → Type 0
Falls own [] outs = outs ≡ []
Falls own (first ∷ later) outs =
    (here others : List Fallen) × (outs ≡ here ++ others) × AllBefore later here
    × Settles (in_hand own) first.step first.answer (outcomes_in here) × ClearsNext own first.step × Falls (first ∷ own) later others

-- what a task has in hand is no arming that was hit
abbrev pub hit_in_hand : Option InHand → Bool
hit_in_hand None = false
hit_in_hand (Some hand) = is_hit hand.part

pub unhit : (own : List Record) (step : Step) → hit_in_hand (in_hand own) ≡ false → ClearsNext own step
unfolding hit_in_hand
unhit own step apart index has heard_so =
    absurd (let yes : hit_in_hand (in_hand own) ≡ true = ap hit_in_hand has in let both : false ≡ true = sym apart ∙ yes in cc)

-- the setter has heard nothing of its finder
abbrev Unheard : ℕ → List Record → Type 0
Unheard index own = (both : Halves) → heard index own ≡ Some both → both.finder ≡ 0

hand_index : Option InHand → ℕ
hand_index None = 0
hand_index (Some hand) = hand.index

unheard : (own : List Record) (step : Step) (index : ℕ) → HasPart index parts.Hit own → Unheard index own → ClearsNext own step
unfolding hand_index
unheard own step index has none other other_has heard_so =
    let same : other ≡ index = sym (ap hand_index other_has) ∙ ap hand_index has in
    let zero_half : heard_so.0.finder ≡ 0 = none heard_so.0 (subst (λ (i : ℕ). heard i own ≡ Some heard_so.0) same heard_so.1) in
    let above : 0 < heard_so.0.finder = heard_so.2 in absurd (omega (arith, zero_half, above))

clears : (own : List Record) (index : ℕ) (part : Part) → in_hand own ≡ Some (record { index = index; part = part }) → ClearsNext own (Clear index)
unfolding hand_index
clears own index part has other other_has heard_so =
    let same : index ≡ other = sym (ap hand_index has) ∙ ap hand_index other_has in ap Clear same

-- a record at which nothing falls, and one at which this does
pub nothing_here : (own later : List Record) (first : Record) (outs : List Fallen) → Settles (in_hand own) first.step first.answer []
    → ClearsNext own first.step
    → Falls (first ∷ own) later outs → Falls own (first ∷ later) outs
nothing_here own later first outs settles clears_so falls = ([], outs, refl, tt, settles, clears_so, falls)

pub one_here : (own later : List Record) (first : Record) (fallen : Fallen) (outs : List Fallen) → fallen.later ≡ later
    → Settles (in_hand own) first.step first.answer (fallen.outcome ∷ []) → ClearsNext own first.step → Falls (first ∷ own) later outs
    → Falls own (first ∷ later) (fallen ∷ outs)
one_here own later first fallen outs is settles clears_so falls = (fallen ∷ [], outs, refl, (is, tt), settles, clears_so, falls)

module _ (s : Setting) where
  -- the first record is this one
  step_word : (step : Step) (Next : ℕ → List Record → Type 0) (records own : List Record) (outs : List Fallen) → MakesWord s.task step Next records
      → ((word : ℕ) (later : List Record) → Next word later → Falls own (made s.task step (answers.Word word) ∷ later) outs) → Falls own records outs
  step_word step Next [] own outs h on = absurd h
  step_word step Next (first ∷ later) own outs h on =
      let got = on_word first.answer (λ w. Next w later) h.2 in
      subst (λ (r : Record). Falls own (r ∷ later) outs) (sym (record_is first s.task step (answers.Word got.0) h.0 h.1 got.1)) (on got.0 later got.2)

  step_flag : (step : Step) (Next : Bool → List Record → Type 0) (records own : List Record) (outs : List Fallen) → MakesFlag s.task step Next records
      → ((flag : Bool) (later : List Record) → Next flag later → Falls own (made s.task step (answers.Flag flag) ∷ later) outs) → Falls own records outs
  step_flag step Next [] own outs h on = absurd h
  step_flag step Next (first ∷ later) own outs h on =
      let got = on_flag first.answer (λ w. Next w later) h.2 in
      subst (λ (r : Record). Falls own (r ∷ later) outs) (sym (record_is first s.task step (answers.Flag got.0) h.0 h.1 got.1)) (on got.0 later got.2)

  step_done : (step : Step) (Next : List Record → Type 0) (records own : List Record) (outs : List Fallen) → MakesDone s.task step Next records
      → ((later : List Record) → Next later → Falls own (made s.task step answers.Done ∷ later) outs) → Falls own records outs
  step_done step Next [] own outs h on = absurd h
  step_done step Next (first ∷ later) own outs h on =
      subst (λ (r : Record). Falls own (r ∷ later) outs) (sym (record_is first s.task step answers.Done h.0 h.1 h.2.0)) (on later h.2.1)

  step_halves : (index : ℕ) (Next : Halves → List Record → Type 0) (first : Record) (later own : List Record) (outs : List Fallen) → first.task ≡ s.task
      → first.step ≡ PairLoad index
      → (both : Halves) → first.answer ≡ answers.Halves both.setter both.finder
      → Falls own (made s.task (PairLoad index) (answers.Halves both.setter both.finder) ∷ later) outs → Falls own (first ∷ later) outs
  step_halves index Next first later own outs mine is both answered falls =
      subst (λ (r : Record). Falls own (r ∷ later) outs) (sym (record_is first s.task (PairLoad index)
      (answers.Halves both.setter both.finder) mine is answered)) falls

  -- a look-up: what it comes to is settled with its last load
  looks_up : (a : Access) (outs : List Fallen) (index : ℕ) (indices : List ℕ) (records : List Record) (found : Option Watchpoint) (rest own : List Record)
      → in_hand own ≡ None
      → LooksUp s a (index ∷ indices) records found rest
      → ((o : List Record) (at word : ℕ) → in_hand o ≡ None → Falls o (made s.task (Load at) (answers.Word word) ∷ rest) outs) → Falls own records outs
  looks_up a outs index [] records found rest own idle h on =
      step_word (Load index) _ records own outs h (λ word later got.
      let last : (rest ≡ later) → Falls own (made s.task (Load index) (answers.Word word) ∷ later) outs =
      λ same. subst (λ (r : List Record). Falls own (made s.task (Load index) (answers.Word word) ∷ r) outs) same (on own index word idle) in
      elim got [ inl hit ↦ last hit.2 | inr miss ↦ last miss.1.1 ])
  looks_up a outs index (next ∷ indices) records found rest own idle h on =
      step_word (Load index) _ records own outs h (λ word later got.
      elim got [
        | inl hit ↦ subst (λ (r : List Record). Falls own (made s.task (Load index) (answers.Word word) ∷ r) outs) hit.2 (on own index word idle)
        | inr miss ↦ nothing_here own later (made s.task (Load index) (answers.Word word)) outs (inl refl) (unhit own (Load index) (ap hit_in_hand idle))
            (looks_up a outs next indices later found rest (made s.task (Load index) (answers.Word word) ∷ own) idle miss.1 on)
      ])

  -- a load of a cell settles nothing
  loads_from : (hand : Option InHand) → hit_in_hand hand ≡ false
      → (a : Access) (source : Option Source) (outs : List Fallen) (records : List Record) (value : Option ℕ) (rest own : List Record)
      → in_hand own ≡ hand → LoadsFrom s a source records value rest → ((o : List Record) → in_hand o ≡ hand → Falls o rest outs) → Falls own records outs
  loads_from hand apart a None outs records value rest own has h on = subst (λ (r : List Record). Falls own r outs) h.1 (on own has)
  loads_from hand apart a (Some source) outs records value rest own has h on = step_word (CellLoad source.cell) _ records own outs h (λ word later got.
      nothing_here own later (made s.task (CellLoad source.cell) (answers.Word word)) outs refl (unhit own (CellLoad source.cell) (ap hit_in_hand has ∙ apart))
      (subst (λ (r : List Record). Falls (made s.task (CellLoad source.cell) (answers.Word word) ∷ own) r outs) got.1
      (on (made s.task (CellLoad source.cell) (answers.Word word) ∷ own) has)))

  -- nothing is settled by a finder's load of a pair
  taken_hears : (index word at setter : ℕ) (finder : ℕ) → hears_finder (Some (record { index = index; part = parts.Taken word })) at finder ≡ false
  taken_hears index word at setter zero = refl
  taken_hears index word at setter (suc finder) = refl

  none_of : (b : Bool) (Some_so None_so : Type 0) → b ≡ false → None_so → MatchBool b Some_so None_so
  none_of true S N is none = absurd (cc)
  none_of false S N is none = none

  one_of : (b : Bool) (Some_so None_so : Type 0) → b ≡ true → Some_so → MatchBool b Some_so None_so
  one_of true S N is some = some
  one_of false S N is some = absurd (cc)

  no_verdict : (own : List Record) (hand : Option InHand) (index : ℕ) (both : Halves) → in_hand own ≡ hand → hears_finder hand index both.finder ≡ false
      → Settles (in_hand own) (PairLoad index) (answers.Halves both.setter both.finder) []
  no_verdict own hand index both has apart =
      none_of (hears_finder (in_hand own) index both.finder) _ _ (ap (λ (h : Option InHand). hears_finder h index both.finder) has ∙ apart) refl

  hit_hears : (index : ℕ) (finder : ℕ) → 0 < finder → hears_finder (Some (record { index = index; part = parts.Hit })) index finder ≡ true
  hit_hears index zero above = absurd (omega (arith, above))
  hit_hears index (suc finder) above = eq-eqb index index refl

  heard_here : (index : ℕ) (both : Halves) (own : List Record)
      → heard index (made s.task (PairLoad index) (answers.Halves both.setter both.finder) ∷ own) ≡ Some both
  heard_here index both own = rw (eq-eqb index index refl) refl

  -- the finder waits, and tells
  waits : (index word : ℕ) (outs : List Fallen) (records : List Record) (both : Halves) (rest own : List Record) → HasPart index (parts.Taken word) own
      → Hears setter_half s.task index records both rest → ((o : List Record) → HasPart index (parts.Taken word) o → Falls o rest outs) → Falls own records outs
  waits index word outs [] both rest own has h on = absurd h
  waits index word outs (first ∷ later) both rest own has h on =
      let got = on_halves first.answer _ h.2 in
      let pair : Record = made s.task (PairLoad index) (answers.Halves got.0.setter got.0.finder) in
      let falls : Falls (pair ∷ own) later outs = elim got.2 [
        | inl p ↦ subst (λ (r : List Record). Falls (pair ∷ own) r outs) p.2 (on (pair ∷ own) has)
        | inr q ↦ waits index word outs later both rest (pair ∷ own) has q.1 on
      ] in
      step_halves index (λ b l. Unit {0}) first later own outs h.0 h.1 got.0 got.1
      (nothing_here own later pair outs
      (no_verdict own (Some (record { index = index; part = parts.Taken word })) index got.0 has (taken_hears index word index got.0.setter got.0.finder))
      (unhit own (PairLoad index) (ap hit_in_hand has)) falls)

  -- one check of an access; these outcomes follow on its own
  module _ (a : Access) (more : List Fallen) (rest : List Record) (goes_on : (own : List Record) → in_hand own ≡ None → Falls own rest more) where
    abbrev out : Outcome → List Record → Fallen
    out outcome later = record { access = a; outcome = outcome; later = later }

    -- the outcome is settled with the last record of the check
    at_last : (own later : List Record) (first : Record) (outcome : Outcome) (pass_later : List Record) → pass_later ≡ later → rest ≡ later
        → in_hand own ≡ None → in_hand (first ∷ own) ≡ None → Settles (in_hand own) first.step first.answer (outcome ∷ [])
        → Falls own (first ∷ later) (out outcome pass_later ∷ more)
    at_last own later first outcome pass_later is same idle idle_after settles =
        one_here own later first (out outcome pass_later) more is settles (unhit own first.step (ap hit_in_hand idle))
        (subst (λ (r : List Record). Falls (first ∷ own) r more) same (goes_on (first ∷ own) idle_after))

    tells : (index word setter : ℕ) (outcome : Outcome) (pass_later : List Record) → pass_later ≡ rest → (records own : List Record)
        → HasPart index (parts.Taken word) own
        → MakesDone s.task (Tell index (ticket_number a)) (λ after. (outcome ≡ outcomes.Told (record { setter = setter; finder = ticket_number a }))
        × (rest ≡ after)) records
        → Falls own records (out outcome pass_later ∷ more)
    tells index word setter outcome pass_later is records own has h =
        step_done (Tell index (ticket_number a)) _ records own (out outcome pass_later ∷ more) h (λ later got.
        let told : Record = made s.task (Tell index (ticket_number a)) answers.Done in
        one_here own later told (out outcome pass_later) more (is ∙ got.1)
        (outcome, refl, subst (λ (o : Outcome). TellsOf (ticket_number a) o) (sym got.0) refl)
        (unhit own (Tell index (ticket_number a)) (ap hit_in_hand has))
        (subst (λ (r : List Record). Falls (told ∷ own) r more) got.1 (goes_on (told ∷ own) refl)))

    tried : (found : Watchpoint) (taken : Bool) (outcome : Outcome) (pass_later : List Record) → pass_later ≡ rest → (later own : List Record)
        → in_hand own ≡ None
        → MatchBool taken (FinderTells s a found.index later outcome rest) ((outcome ≡ outcomes.Lost) × (rest ≡ later))
        → Falls own (made s.task (TryConsume found.index found.word) (answers.Flag taken) ∷ later) (out outcome pass_later ∷ more)
    tried found true outcome pass_later is later own idle h =
        let took : Record = made s.task (TryConsume found.index found.word) (answers.Flag true) in
        nothing_here own later took (out outcome pass_later ∷ more) refl (unhit own took.step (ap hit_in_hand idle))
        (waits found.index found.word (out outcome pass_later ∷ more) later h.0 h.1 (took ∷ own) refl h.2 (λ o has.
        tells found.index found.word h.0.setter outcome pass_later is h.1 o has h.3))
    tried found false outcome pass_later is later own idle h =
        at_last own later (made s.task (TryConsume found.index found.word) (answers.Flag false)) outcome pass_later (is ∙ h.1) h.1 idle idle
        (outcome, refl, h.0)

    takes : (found : Watchpoint) (outcome : Outcome) (pass_later : List Record) → pass_later ≡ rest → (records own : List Record) → in_hand own ≡ None
        → Takes s a found records outcome rest → Falls own records (out outcome pass_later ∷ more)
    takes found outcome pass_later is records own idle h =
        step_flag (TryConsume found.index found.word) _ records own (out outcome pass_later ∷ more) h
        (λ taken later got. tried found taken outcome pass_later is later own idle got)

    -- a watchpoint was found at the last load of the look-up
    found_at : (mask : Option ℕ) (found : Watchpoint) (outcome : Outcome) (pass_later : List Record) → pass_later ≡ rest
        → (records own : List Record) (at word : ℕ) → in_hand own ≡ None
        → MatchOption mask (Takes s a found records outcome rest) (λ m. (outcome ≡ outcomes.Nothing) × (rest ≡ records))
        → Falls own (made s.task (Load at) (answers.Word word) ∷ records) (out outcome pass_later ∷ more)
    found_at None found outcome pass_later is records own at word idle h =
        let load : Record = made s.task (Load at) (answers.Word word) in
        nothing_here own records load (out outcome pass_later ∷ more) (inl refl) (unhit own (Load at) (ap hit_in_hand idle))
        (takes found outcome pass_later is records (load ∷ own) idle h)
    found_at (Some m) found outcome pass_later is records own at word idle h =
        at_last own records (made s.task (Load at) (answers.Word word)) outcome pass_later (is ∙ h.1) h.1 idle idle
        (inr (outcome, refl, subst (λ (o : Outcome). IsUnwatched o) (sym h.0) tt))

    -- the setter gives its index back
    frees : (index : ℕ) (part : Part) (records own : List Record) → in_hand own ≡ Some (record { index = index; part = part }) → Frees s index records rest
        → Falls own records more
    frees index part records own has h = step_done (Clear index) _ records own more h (λ later got.
        let clear : Record = made s.task (Clear index) answers.Done in
        nothing_here own later clear more refl (clears own index part has)
        (step_done (Remove index) _ later (clear ∷ own) more got (λ after over.
        let remove : Record = made s.task (Remove index) answers.Done in
        nothing_here (clear ∷ own) after remove more refl (unhit (clear ∷ own) (Remove index) refl)
        (subst (λ (r : List Record). Falls (remove ∷ clear ∷ own) r more) over (goes_on (remove ∷ clear ∷ own) refl)))))

    untouched_is : (values : Option (ℕ × ℕ)) (outcome : Outcome) → UntouchedOutcome s a values outcome → IsUntouched outcome
    untouched_is values outcome (verdicts.unknown change old new c v is o) = subst (λ (x : Outcome). IsUntouched x) (sym o) tt
    untouched_is values outcome (verdicts.quiet change c v o) = subst (λ (x : Outcome). IsUntouched x) (sym o) tt

    hit_is : (values : Option (ℕ × ℕ)) (both : Halves) (outcome : Outcome) → HitOutcome s a values both outcome → AnswersTo both outcome
    hit_is values both outcome (verdicts.encoding apart o) = subst (λ (x : Outcome). AnswersTo both x) (sym o) tt
    hit_is values both outcome (verdicts.reported change shares c v o) = subst (λ (x : Outcome). AnswersTo both x) (sym o) refl
    hit_is values both outcome (verdicts.dropped change reason shares c v o) = subst (λ (x : Outcome). AnswersTo both x) (sym o) tt

    -- the setter waits for its finder, and has its verdict with the load by which it hears it
    judges_hit : (index : ℕ) (values : Option (ℕ × ℕ)) (outcome : Outcome) (both : Halves) (records later own : List Record) → HasPart index parts.Hit own
        → Unheard index own
        → Hears finder_half s.task index records both later → HitOutcome s a values both outcome → Frees s index later rest
        → Falls own records (out outcome later ∷ more)
    judges_hit index values outcome both [] later own has none h verdict free = absurd h
    judges_hit index values outcome both (first ∷ records) later own has none h verdict free =
        let got = on_halves first.answer _ h.2 in
        let pair : Record = made s.task (PairLoad index) (answers.Halves got.0.setter got.0.finder) in
        let hit : Option InHand = Some (record { index = index; part = parts.Hit }) in
        step_halves index (λ b l. Unit {0}) first records own (out outcome later ∷ more) h.0 h.1 got.0 got.1
        (elim got.2 [
          | inl p ↦
              one_here own records pair (out outcome later) more p.2
              (one_of (hears_finder (in_hand own) index got.0.finder) _ _
              (ap (λ (x : Option InHand). hears_finder x index got.0.finder) has ∙ hit_hears index got.0.finder p.0)
              (outcome, refl, subst (λ (b : Halves). AnswersTo b outcome) p.1 (hit_is values both outcome verdict)))
              (unheard own (PairLoad index) index has none)
              (subst (λ (r : List Record). Falls (pair ∷ own) r more) p.2 (frees index parts.Hit later (pair ∷ own) has free))
          | inr q ↦
              nothing_here own records pair (out outcome later ∷ more)
              (no_verdict own hit index got.0 has (ap (λ (n : ℕ). hears_finder hit index n) q.0))
              (unheard own (PairLoad index) index has none)
              (judges_hit index values outcome both records later (pair ∷ own) has
              (λ b is. let same : got.0 ≡ b = some_same (sym (heard_here index got.0 own) ∙ is) in
              ap (λ (x : Halves). x.finder) (sym same) ∙ q.0) q.1 verdict free)
        ])

    consumed : (index ticket : ℕ) (values : Option (ℕ × ℕ)) (untouched : Bool) (outcome : Outcome) (records later own : List Record)
        → HasPart index (parts.Named ticket) own
        → MatchBool untouched (UntouchedOutcome s a values outcome × (later ≡ records))
        ((both : Halves) × Hears finder_half s.task index records both later × HitOutcome s a values both outcome)
        → Frees s index later rest → Falls own (made s.task (Consume index) (answers.Flag untouched) ∷ records) (out outcome later ∷ more)
    consumed index ticket values true outcome records later own has got free =
        let quiet : Record = made s.task (Consume index) (answers.Flag true) in
        one_here own records quiet (out outcome later) more got.1 (outcome, refl, untouched_is values outcome got.0)
        (unhit own (Consume index) (ap hit_in_hand has))
        (subst (λ (r : List Record). Falls (quiet ∷ own) r more) got.1 (frees index parts.Untouched later (quiet ∷ own) refl free))
    consumed index ticket values false outcome records later own has got free =
        let hit : Record = made s.task (Consume index) (answers.Flag false) in
        nothing_here own records hit (out outcome later ∷ more) refl (unhit own (Consume index) (ap hit_in_hand has))
        (judges_hit index values outcome got.0 records later (hit ∷ own) refl
        (λ both is. absurd (let none : heard index (hit ∷ own) ≡ None = rw (eq-eqb index index refl) refl in
        let no : None ≡ Some both = sym none ∙ is in cc)) got.1 got.2 free)

    arms : (index word : ℕ) (outcome : Outcome) (records later own : List Record) → HasPart index (parts.Inserted word) own
        → Arms s a index records outcome later → Frees s index later rest → Falls own records (out outcome later ∷ more)
    arms index word outcome records later own has h free =
        let outs : List Fallen = out outcome later ∷ more in
        let named : Option InHand = Some (record { index = index; part = parts.Named (ticket_number a) }) in
        step_done (Name index (ticket_number a)) _ records own outs h (λ after got.
        let name : Record = made s.task (Name index (ticket_number a)) answers.Done in
        nothing_here own after name outs refl (unhit own name.step (ap hit_in_hand has))
        (loads_from named refl a (source_of s a) outs after got.0 got.2 (name ∷ own) refl got.4 (λ r has_r.
        loads_from named refl a (source_of s a) outs got.2 got.1 got.3 r has_r got.5 (λ q has_q.
        step_flag (Consume index) _ got.3 q outs got.6 (λ untouched consumed_so verdict.
        consumed index (ticket_number a) (both_values got.0 got.1) untouched outcome consumed_so later q has_q verdict free)))))

    -- tries to insert: the last refused one leaves no place
    tries_insert : (word : ℕ) (outs : List Fallen) (index : ℕ) (indices : List ℕ) (records : List Record) (place : Option ℕ) (mid own : List Record)
        → in_hand own ≡ None
        → TriesInsert s.task word (index ∷ indices) records place mid
        → ((o : List Record) (at : ℕ) → place ≡ Some at → HasPart at (parts.Inserted word) o → Falls o mid outs)
        → ((o : List Record) (at : ℕ) → place ≡ None → in_hand o ≡ None → Falls o (made s.task (Insert at word) (answers.Flag false) ∷ mid) outs)
        → Falls own records outs
    tries_insert word outs index indices records place mid own idle h stands full =
        step_flag (Insert index word) _ records own outs h (λ accepted later got. tried_at index indices place mid own idle stands full accepted later got)
      where
        tried_at : (index : ℕ) (indices : List ℕ) (place : Option ℕ) (mid own : List Record) → in_hand own ≡ None
            → ((o : List Record) (at : ℕ) → place ≡ Some at → HasPart at (parts.Inserted word) o → Falls o mid outs)
            → ((o : List Record) (at : ℕ) → place ≡ None → in_hand o ≡ None → Falls o (made s.task (Insert at word) (answers.Flag false) ∷ mid) outs)
            → (accepted : Bool) (later : List Record)
            → MatchBool accepted ((place ≡ Some index) × (mid ≡ later)) (TriesInsert s.task word indices later place mid)
            → Falls own (made s.task (Insert index word) (answers.Flag accepted) ∷ later) outs
        tried_at index indices place mid own idle stands full true later got =
            let inserted : Record = made s.task (Insert index word) (answers.Flag true) in
            nothing_here own later inserted outs refl (unhit own inserted.step (ap hit_in_hand idle))
            (subst (λ (r : List Record). Falls (inserted ∷ own) r outs) got.1 (stands (inserted ∷ own) index got.0 refl))
        tried_at index [] place mid own idle stands full false later got =
            subst (λ (r : List Record). Falls own (made s.task (Insert index word) (answers.Flag false) ∷ r) outs) got.1 (full own index got.0 idle)
        tried_at index (next ∷ indices) place mid own idle stands full false later got =
            let refused : Record = made s.task (Insert index word) (answers.Flag false) in
            nothing_here own later refused outs (inl refl) (unhit own refused.step (ap hit_in_hand idle))
            (step_flag (Insert next word) _ later (refused ∷ own) outs got (λ accepted after after_got.
            tried_at next indices place mid (refused ∷ own) idle stands full accepted after after_got))

    ended : (pass : Pass) (outcome : Outcome) (later : List Record) → pass.outcome ≡ outcome → pass.later ≡ later → out outcome later ≡ fallen_of a pass
    ended pass outcome later is same = ap (λ (o : Outcome). out o later) (sym is) ∙ ap (λ (r : List Record). out pass.outcome r) (sym same)

    watched_at : (asked word : ℕ) (place : Option ℕ) (mid : List Record) (judged : Option Judged) (later : List Record) (pass : Pass)
        → WatchesAt s a place mid judged later → Ends s asked judged later pass rest
        → ((o : List Record) (at : ℕ) → place ≡ Some at → HasPart at (parts.Inserted word) o → Falls o mid (fallen_of a pass ∷ more))
        × ((o : List Record) (at : ℕ) → place ≡ None → in_hand o ≡ None
        → Falls o (made s.task (Insert at word) (answers.Flag false) ∷ mid) (fallen_of a pass ∷ more))
    watched_at asked word None mid judged later pass h left =
        let none : Ends s asked None later pass rest = subst (λ (j : Option Judged). Ends s asked j later pass rest) h.0 left in (
          λ o at is. absurd (let no : None ≡ Some at = is in cc),
          λ o at is idle. at_last o mid (made s.task (Insert at word) (answers.Flag false)) pass.outcome pass.later
              (ap (λ (p : Pass). p.later) none.0 ∙ h.1) (none.1 ∙ h.1) idle idle (inr (pass.outcome, refl, ap (λ (p : Pass). p.outcome) none.0)),
        )
    watched_at asked word (Some index) mid judged later pass h left =
        let some : Ends s asked (Some (record { index = index; outcome = h.0 })) later pass rest =
        subst (λ (j : Option Judged). Ends s asked j later pass rest) h.2 left in (
          λ o at is has.
              let same : index ≡ at = some_same is in
              subst (λ (f : Fallen). Falls o mid (f ∷ more)) (ended pass h.0 later (ap (λ (p : Pass). p.outcome) some.0) (ap (λ (p : Pass). p.later) some.0))
              (arms index word h.0 mid later o (subst (λ (i : ℕ). HasPart i (parts.Inserted word) o) (sym same) has) h.1 some.1),
          λ o at is. absurd (let no : Some index ≡ None = is in cc),
        )

    nothing_found : (pass : Pass) (outcome : Outcome) → pass.outcome ≡ outcome → IsUnwatched outcome → (mid : List Record) → pass.later ≡ mid → rest ≡ mid
        → (own : List Record) (at word : ℕ) → in_hand own ≡ None → Falls own (made s.task (Load at) (answers.Word word) ∷ mid) (fallen_of a pass ∷ more)
    nothing_found pass outcome is kind mid later same own at word idle =
        at_last own mid (made s.task (Load at) (answers.Word word)) pass.outcome pass.later later same idle idle
        (inr (pass.outcome, refl, subst (λ (o : Outcome). IsUnwatched o) (sym is) kind))

    none_found : (marked : Bool) (asked : ℕ) (mid : List Record) (pass : Pass) (own : List Record) (at word : ℕ) → in_hand own ≡ None
        → NoneFound s a marked asked mid pass rest
        → Falls own (made s.task (Load at) (answers.Word word) ∷ mid) (fallen_of a pass ∷ more)
    none_found marked asked mid pass own at word idle (cases.counts_as_marked m is r) =
        nothing_found pass outcomes.Nothing (ap (λ (p : Pass). p.outcome) is) tt mid (ap (λ (p : Pass). p.later) is) r own at word idle
    none_found marked asked mid pass own at word idle (cases.skipped m n is r) =
        nothing_found pass outcomes.Nothing (ap (λ (p : Pass). p.outcome) is) tt mid (ap (λ (p : Pass). p.later) is) r own at word idle
    none_found marked asked mid pass own at word idle (cases.unencodable m w n is r) =
        nothing_found pass outcomes.Unencodable (ap (λ (p : Pass). p.outcome) is) tt mid (ap (λ (p : Pass). p.later) is) r own at word idle
    none_found marked asked mid pass own at word idle (cases.watched judged later unmarked w encodable up left) =
        let outs : List Fallen = fallen_of a pass ∷ more in
        let load : Record = made s.task (Load at) (answers.Word word) in
        let its : ℕ = word_of s.rules.layout a in
        let ends = watched_at (asked + 1) its up.0 up.1 judged later pass up.3 left in
        nothing_here own mid load outs (inl refl) (unhit own (Load at) (ap hit_in_hand idle))
        (tries_insert its outs (slot_of s a + 1) ((slot_of s a + 2) ∷ slot_of s a ∷ []) mid up.0 up.1 (load ∷ own) idle up.2 ends.0 ends.1)

    goes_from : (marked : Bool) (asked : ℕ) (found : Option Watchpoint) (mid : List Record) (pass : Pass) (own : List Record) (at word : ℕ) → in_hand own ≡ None
        → GoesOn s a marked asked found mid pass rest → Falls own (made s.task (Load at) (answers.Word word) ∷ mid) (fallen_of a pass ∷ more)
    goes_from marked asked None mid pass own at word idle h = none_found marked asked mid pass own at word idle h
    goes_from marked asked (Some found) mid pass own at word idle h = found_at a.mask found pass.outcome pass.later h.2 mid own at word idle h.3

    pub once : (marked : Bool) (asked : ℕ) (records : List Record) (pass : Pass) (own : List Record) → in_hand own ≡ None
        → ChecksOnce s a marked asked records pass rest
        → Falls own records (fallen_of a pass ∷ more)
    once marked asked records pass own idle h =
        looks_up a (fallen_of a pass ∷ more) (slot_of s a) ((slot_of s a + 1) ∷ (slot_of s a + 2) ∷ []) records h.0 h.1 own idle h.2
        (λ o at word idle_o. goes_from marked asked h.0 h.1 pass o at word idle_o h.3)

  pub rechecks : (more : List Fallen) (rest : List Record) → ((own : List Record) → in_hand own ≡ None → Falls own rest more)
      → (scopes : List Begun) (asked : ℕ) (records : List Record) (passes : Passes) → Rechecks s scopes asked records passes rest
      → (own : List Record) → in_hand own ≡ None → Falls own records (passes.outcomes ++ more)
  rechecks more rest goes_on [] asked records passes h own idle =
      let all : Falls own rest (passes.outcomes ++ more) = subst (λ (p : Passes). Falls own rest (p.outcomes ++ more)) (sym h.0) (goes_on own idle) in
      subst (λ (r : List Record). Falls own r (passes.outcomes ++ more)) h.1 all
  rechecks more rest goes_on (scope ∷ scopes) asked records passes h own idle =
      by_silence scope.silenced _ _ _ h
      (λ skips. rechecks more rest goes_on scopes asked records passes skips own idle)
      (λ now.
      let one : Falls own records (fallen_of scope.access now.0 ∷ (now.2 ++ more)) =
      once scope.access (now.2 ++ more) now.1 (λ o at. rechecks more rest goes_on scopes now.0.asked now.1
      (record { outcomes = now.2; asked = passes.asked }) now.4 o at)
      scope.marked asked records now.0 own idle now.3 in
      subst (λ (o : List Fallen). Falls own records (o ++ more)) (sym now.5) one)
    where
      by_silence : (silenced : Bool) (Yes No Goal : Type 0) → MatchBool silenced Yes No → (Yes → Goal) → (No → Goal) → Goal
      by_silence true Yes No Goal given at_true at_false = at_true given
      by_silence false Yes No Goal given at_true at_false = at_false given

  -- the clock's step in front
  clock_step : (own later : List Record) (first : Record) (outs : List Fallen) → first.step ≡ Clock → in_hand own ≡ None
      → (in_hand (first ∷ own) ≡ None → Falls (first ∷ own) later outs) → Falls own (first ∷ later) outs
  clock_step own later first outs is idle falls =
      nothing_here own later first outs (subst (λ (st : Step). Settles (in_hand own) st first.answer []) (sym is) refl)
      (unhit own first.step (ap hit_in_hand idle))
      (falls (subst (λ (st : Step). in_hand (record first { step = st } ∷ own) ≡ None) (sym is) idle))

  pub check : (more : List Fallen) (rest : List Record) → ((own : List Record) → in_hand own ≡ None → Falls own rest more)
      → (scopes : List Begun) (begun : Begun) (asked : ℕ) (records : List Record) (passes : Passes) → Check s scopes begun asked records passes rest
      → (own : List Record) → in_hand own ≡ None → Falls own records (passes.outcomes ++ more)
  check more rest goes_on scopes begun asked [] passes h own idle = absurd h.2
  check more rest goes_on scopes begun asked (first ∷ later) passes h own idle =
      let got = on_word first.answer _ h.2.2 in
      clock_step own later first (passes.outcomes ++ more) h.2.1 idle (λ idle_after. by_silence begun.silenced idle_after got.2)
    where
      by_silence : (silenced : Bool) → in_hand (first ∷ own) ≡ None
          → MatchBool silenced ((passes ≡ record { outcomes = []; asked = cases.asked_silenced begun.marked asked })
          × (rest ≡ later)) (cases.ChecksAll s scopes begun asked later passes rest)
          → Falls (first ∷ own) later (passes.outcomes ++ more)
      by_silence true idle_after quiet =
          let all : Falls (first ∷ own) rest (passes.outcomes ++ more) =
          subst (λ (p : Passes). Falls (first ∷ own) rest (p.outcomes ++ more)) (sym quiet.0) (goes_on (first ∷ own) idle_after) in
          subst (λ (r : List Record). Falls (first ∷ own) r (passes.outcomes ++ more)) quiet.1 all
      by_silence false idle_after now =
          let left : List Begun = left_to_check now.0.settled scopes in
          let one : Falls (first ∷ own) later (fallen_of begun.access now.0 ∷ (now.2 ++ more)) =
          once begun.access (now.2 ++ more) now.1 (λ o at. rechecks more rest goes_on left now.0.asked now.1
          (record { outcomes = now.2; asked = passes.asked }) now.4 o at)
          begun.marked asked later now.0 (first ∷ own) idle_after now.3 in
          subst (λ (o : List Fallen). Falls (first ∷ own) later (o ++ more)) (sym now.5) one

  pub close : (more : List Fallen) (rest : List Record) → ((own : List Record) → in_hand own ≡ None → Falls own rest more)
      → (scope : Begun) (silenced : Bool) (asked : ℕ) (records : List Record) (passes : Passes) → Close s scope silenced asked records passes rest
      → (own : List Record) → in_hand own ≡ None → Falls own records (passes.outcomes ++ more)
  close more rest goes_on scope silenced asked records passes h own idle =
      rechecks more h.1.0 (λ o at. ended_by h.1.0 h.1.2 o at) (record scope { silenced = scope.silenced || silenced } ∷ []) asked records passes h.1.1 own idle
    where
      ended_by : (later : List Record) → MakesWord s.task Clock (λ stamp after. rest ≡ after) later → (o : List Record) → in_hand o ≡ None → Falls o later more
      ended_by [] made_so o at = absurd made_so
      ended_by (first ∷ later) made_so o at =
          let got = on_word first.answer _ made_so.2 in
          clock_step o later first more made_so.1 at (λ idle_after. subst (λ (r : List Record). Falls (first ∷ o) r more) got.2
          (goes_on (first ∷ o) idle_after))
