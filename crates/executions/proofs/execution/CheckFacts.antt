-- What a check's own records say: of each tell, who tells and of which word, and of each answer to a taking, who gave
-- it and where. Each lemma is told how to go on.
use Rattle.std.proofs.Common.{◌≡◌, ◌<◌, ◌≤◌, ◌∙◌, ◌∷◌, ◌+◌, ◌++◌, [], ℕ, suc, Bool, true, false, length, List, IsTrue, Option, None, Some, MatchBool, MatchOption, ap, arith, inl, inr, refl, subst, sym}
use Rattle.std.proofs.lemmas.Bool.{eq-eqb}
use Rattle.access_types.specs.Access.{Access}
use Rattle.access_types.specs.Ticket.{ticket_number}
use Rattle.slot.specs.Pair.{Halves}
use Rattle.slot_table.specs.Armings.{last_arming, last_arming_number, named_at}
use Rattle.slot_table.specs.Discipline.{HasPart, heard, in_hand}
use Rattle.slot_table.specs.declared.discipline.InHand.{InHand}
use Rattle.slot_table.specs.declared.discipline.Part.TheVariants as parts
use Rattle.slot_table.specs.declared.records.Record.{Record}
use Rattle.slot_table.specs.declared.step.Answer.TheVariants as answers
use Rattle.slot_table.specs.declared.step.Step.{Step}
use Rattle.slot_table.specs.declared.step.Step.TheVariants.{CellLoad, Clear, Consume, Insert, Load, Name, PairLoad, Remove, Tell, TryConsume}
use Rattle.watch_word.specs.Word.{Encodable, word_of}
use Rattle.setup_access.specs.Check as cases
use Rattle.setup_access.specs.Check.{Check, ChecksOnce, Close, Ends, Fallen, GoesOn, NoneFound, Pass, Passes, Rechecks, fallen_of, left_to_check}
use Rattle.setup_access.specs.Find.{LooksUp}
use Rattle.setup_access.specs.Found.{Hears, Takes, FinderTells, finder_half, setter_half}
use Rattle.setup_access.specs.Hits.{Hits}
use Rattle.setup_access.specs.Parts.{made}
use Rattle.setup_access.specs.Records.{MakesDone, MakesFlag, MakesWord}
use Rattle.setup_access.specs.Setting.{Setting, look_order, slot_of, try_order}
use Rattle.setup_access.specs.Setup.{Arms, Frees, Judged, Judges, TriesInsert, WatchesAt}
use Rattle.setup_access.specs.Values.{LoadsFrom, both_values, source_of}
use Rattle.setup_access.specs.Verdicts as verdicts
use Rattle.setup_access.specs.Verdicts.{HitOutcome, UntouchedOutcome}
use Rattle.setup_access.specs.declared.begun.Begun.{Begun}
use Rattle.setup_access.specs.declared.outcome.Outcome.{Outcome}
use Rattle.setup_access.specs.declared.outcome.Outcome.TheVariants as outcomes
use Rattle.setup_access.specs.declared.outcome.Watchpoint.{Watchpoint}
use Rattle.setup_access.specs.declared.source.Source.{Source}
use Rattle.setup_access.proofs.DisciplineLemmas.{on_flag, on_halves, on_word, record_is}
use Rattle.executions.specs.execution.Answers.{is_answer}

-- own records after more of them
abbrev pub back : List Record → List Record → List Record
back [] own = own
back (first ∷ later) own = back later (first ∷ own)

-- what is known of an access that has begun, and after how many of its task's records it is in progress
module _ (s : Setting) (Known : Begun → Type 0) (In : Begun → ℕ → Type 0) where
  -- a tell at an index, after these own records
  pub record IsTold (own : List Record) (index ticket : ℕ) : Type 0 where
    pub by : Begun
    pub word : ℕ
    pub known : Known by
    pub unsilenced : by.silenced ≡ false
    pub is : ticket ≡ ticket_number by.access
    pub has : HasPart index (parts.Taken word) own
    pub hits : Hits s.rules.layout by.access word
    pub goes : In by (length own)

  abbrev pub OnTell : List Record → Step → Type 0
  OnTell own (Tell index ticket) = IsTold own index ticket
  OnTell own step = Unit {0}

  abbrev pub TellsKnown : List Record → List Record → Type 0
  TellsKnown own [] = Unit {0}
  TellsKnown own (first ∷ later) = OnTell own first.step × TellsKnown (first ∷ own) later

  -- an answer to a taking, which fell at the last of these own records
  pub record IsAnswered (a : Access) (outcome : Outcome) (own : List Record) : Type 0 where
    pub pair : Halves
    pub values : Option (ℕ × ℕ)
    pub verdict : HitOutcome s a values pair outcome
    pub by : Begun
    pub known : Known by
    pub unmarked : by.marked ≡ false
    pub encodable : Encodable a
    pub unsilenced : by.silenced ≡ false
    pub is : by.access ≡ a
    pub index : ℕ
    pub number : ℕ
    pub has : HasPart index parts.Hit own
    pub hears : heard index own ≡ Some pair
    pub above : 0 < pair.finder
    pub armed : last_arming index own ≡ Some (record { setter = s.task; word = word_of s.rules.layout a })
    pub numbered : last_arming_number index own ≡ Some number
    pub named : named_at index own ≡ Some (ticket_number a)
    pub goes : (count : ℕ) → number < count → count ≤ length own → In by count

  abbrev pub FallsSo : List Record → List Record → Access → List Record → Outcome → Type 0
  FallsSo own records a later outcome =
      IsTrue (is_answer outcome) → (p : List Record) × (records ≡ p ++ later) × IsAnswered a outcome (back p own)

  abbrev pub AllFallSo : List Record → List Record → List Fallen → Type 0
  AllFallSo own records [] = Unit {0}
  AllFallSo own records (fallen ∷ others) = FallsSo own records fallen.access fallen.later fallen.outcome × AllFallSo own records others

  abbrev pub Good : List Record → List Record → List Fallen → Type 0
  Good own records outs = TellsKnown own records × AllFallSo own records outs

  falls_step : (own later rest : List Record) (first : Record) (a : Access) (outcome : Outcome) → FallsSo (first ∷ own) later a rest outcome → FallsSo own (first ∷ later) a rest outcome
  falls_step own later rest first a outcome h = λ answers. let it = h answers in (first ∷ it.0, ap (λ (r : List Record). first ∷ r) it.1, it.2)

  all_step : (own later : List Record) (first : Record) (outs : List Fallen) → AllFallSo (first ∷ own) later outs → AllFallSo own (first ∷ later) outs
  all_step own later first [] h = tt
  all_step own later first (fallen ∷ others) h = (falls_step own later fallen.later first fallen.access fallen.outcome h.0, all_step own later first others h.1)

  pub good_step : (own later : List Record) (first : Record) (outs : List Fallen) → OnTell own first.step → Good (first ∷ own) later outs → Good own (first ∷ later) outs
  good_step own later first outs ok good = ((ok, good.0), all_step own later first outs good.1)

  -- a look-up finds what the access hits
  abbrev FoundSo : Access → Option Watchpoint → Type 0
  FoundSo a None = Unit {0}
  FoundSo a (Some found) = Hits s.rules.layout a found.word

  -- within one check of an access that has begun: after so many own records it had begun, and so many there are in all
  module _ (from total : ℕ) where
    pub record At (own records : List Record) : Type 0 where
      pub begun : from ≤ length own
      pub all : length own + length records ≡ total

  module _ (from total : ℕ) (outs : List Fallen) where
    abbrev pub Goes : List Record → List Record → Type 0
    Goes own records = At from total own records → Good own records outs

    goes_step : (own later : List Record) (first : Record) → (At from total own (first ∷ later) → OnTell own first.step) → Goes (first ∷ own) later → Goes own (first ∷ later)
    goes_step own later first ok goes at =
        good_step own later first outs (ok at)
        (goes (record { begun = let b : from ≤ length own = at.begun in omega (arith, b); all = let t : length own + suc (length later) ≡ total = at.all in omega (arith, t) }))

    pub step_word : (step : Step) (Next : ℕ → List Record → Type 0) (records own : List Record) → MakesWord s.task step Next records
        → OnTell own step → ((word : ℕ) (later : List Record) → Next word later → Goes (made s.task step (answers.Word word) ∷ own) later) → Goes own records
    step_word step Next [] own h ok on = absurd h
    step_word step Next (first ∷ later) own h ok on =
        let got = on_word first.answer (λ w. Next w later) h.2 in
        subst (λ (r : Record). Goes own (r ∷ later)) (sym (record_is first s.task step (answers.Word got.0) h.0 h.1 got.1))
        (goes_step own later (made s.task step (answers.Word got.0)) (λ at. ok) (on got.0 later got.2))

    pub step_flag : (step : Step) (Next : Bool → List Record → Type 0) (records own : List Record) → MakesFlag s.task step Next records
        → OnTell own step → ((flag : Bool) (later : List Record) → Next flag later → Goes (made s.task step (answers.Flag flag) ∷ own) later) → Goes own records
    step_flag step Next [] own h ok on = absurd h
    step_flag step Next (first ∷ later) own h ok on =
        let got = on_flag first.answer (λ w. Next w later) h.2 in
        subst (λ (r : Record). Goes own (r ∷ later)) (sym (record_is first s.task step (answers.Flag got.0) h.0 h.1 got.1))
        (goes_step own later (made s.task step (answers.Flag got.0)) (λ at. ok) (on got.0 later got.2))

    pub step_done : (step : Step) (Next : List Record → Type 0) (records own : List Record) → MakesDone s.task step Next records
        → ((later : List Record) → Next later → At from total own (made s.task step answers.Done ∷ later) → OnTell own step)
        → ((later : List Record) → Next later → Goes (made s.task step answers.Done ∷ own) later) → Goes own records
    step_done step Next [] own h ok on = absurd h
    step_done step Next (first ∷ later) own h ok on =
        subst (λ (r : Record). Goes own (r ∷ later)) (sym (record_is first s.task step answers.Done h.0 h.1 h.2.0))
        (goes_step own later (made s.task step answers.Done) (ok later h.2.1) (on later h.2.1))

    ends : (own records rest : List Record) → rest ≡ records → Goes own rest → Goes own records
    ends own records rest same goes = subst (λ (r : List Record). Goes own r) same goes

    pick : (b : Bool) (Yes No : Type 0) (Goal : Type 0) → MatchBool b Yes No → (Yes → Goal) → (No → Goal) → Goal
    pick true Yes No Goal h at_true at_false = at_true h
    pick false Yes No Goal h at_true at_false = at_false h

    heard_here : (task index : ℕ) (both : Halves) (own : List Record) → heard index (made task (PairLoad index) (answers.Halves both.setter both.finder) ∷ own) ≡ Some both
    heard_here task index both own = rw (eq-eqb index index refl) refl

    -- a wait for a half keeps what loads of the pair keep
    hears : (Has : List Record → Type 0) (half : Halves → ℕ) (index : ℕ)
        → ((own : List Record) (both : Halves) → Has own → Has (made s.task (PairLoad index) (answers.Halves both.setter both.finder) ∷ own))
        → (records : List Record) (both : Halves) (rest own : List Record) → Has own → Hears half s.task index records both rest
        → ((o : List Record) → Has o → heard index o ≡ Some both → 0 < half both → Goes o rest) → Goes own records
    hears Has half index keeps [] both rest own has h on = absurd h
    hears Has half index keeps (first ∷ later) both rest own has h on =
        let got = on_halves first.answer _ h.2 in
        let pair : Record = made s.task (PairLoad index) (answers.Halves got.0.setter got.0.finder) in
        let goes : Goes (pair ∷ own) later = elim got.2 [
          | inl p ↦ ends (pair ∷ own) later rest p.2
              (on (pair ∷ own) (keeps own got.0 has) (heard_here s.task index got.0 own ∙ ap Some (sym p.1)) (subst (λ (b : Halves). 0 < half b) (sym p.1) p.0))
          | inr q ↦ hears Has half index keeps later both rest (pair ∷ own) (keeps own got.0 has) q.1 on
        ] in
        subst (λ (r : Record). Goes own (r ∷ later)) (sym (record_is first s.task (PairLoad index) (answers.Halves got.0.setter got.0.finder) h.0 h.1 got.1))
        (goes_step own later pair (λ at. tt) goes)

    looks_up : (a : Access) (indices : List ℕ) (records : List Record) (found : Option Watchpoint) (rest own : List Record) → LooksUp s a indices records found rest
        → ((o : List Record) → FoundSo a found → Goes o rest) → Goes own records
    looks_up a [] records found rest own h on = ends own records rest h.1 (on own (subst (λ (f : Option Watchpoint). FoundSo a f) (sym h.0) tt))
    looks_up a (index ∷ indices) records found rest own h on =
        step_word (Load index) _ records own h tt (λ word later got.
        let o : List Record = made s.task (Load index) (answers.Word word) ∷ own in
        elim got [
          | inl hit ↦ ends o later rest hit.2 (on o (subst (λ (f : Option Watchpoint). FoundSo a f) (sym hit.1) hit.0))
          | inr miss ↦ looks_up a indices later found rest o miss.1 on
        ])

    loads_from : (Has : List Record → Type 0) → ((own : List Record) (cell word : ℕ) → Has own → Has (made s.task (CellLoad cell) (answers.Word word) ∷ own))
        → (a : Access) (source : Option Source) (records : List Record) (value : Option ℕ) (rest own : List Record) → Has own → LoadsFrom s a source records value rest
        → ((o : List Record) → Has o → Goes o rest) → Goes own records
    loads_from Has keeps a None records value rest own has h on = ends own records rest h.1 (on own has)
    loads_from Has keeps a (Some source) records value rest own has h on = step_word (CellLoad source.cell) _ records own h tt (λ word later got.
        ends _ later rest got.1 (on (made s.task (CellLoad source.cell) (answers.Word word) ∷ own) (keeps own source.cell word has)))

    -- the access that is checked, and the records that follow on its check
    module _ (b : Begun) (known : Known b) (unsilenced : b.silenced ≡ false) (rest : List Record)
        (window : (count : ℕ) → from ≤ count → count + length rest ≤ total → In b count)
        (goes_on : (own : List Record) → Goes own rest) where
      abbrev a : Access
      a = b.access

      tells : (index word : ℕ) (records : List Record) (outcome : Outcome) (own : List Record) → HasPart index (parts.Taken word) own → Hits s.rules.layout a word
          → FinderTells s a index records outcome rest → Goes own records
      tells index word records outcome own has hits h =
          hears (λ o. HasPart index (parts.Taken word) o) setter_half index (λ o both it. it) records h.0 h.1 own has h.2 (λ o it is above.
          step_done (Tell index (ticket_number a)) _ h.1 o h.3
          (λ later got at. record {
            by = b;
            word = word;
            known = known;
            unsilenced = unsilenced;
            is = refl;
            has = it;
            hits = hits;
            goes = window (length o) at.begun
                (let all : length o + suc (length later) ≡ total = at.all in
                let same : length rest ≡ length later = ap (λ (r : List Record). length r) got.1 in omega (arith, all, same));
          })
          (λ later got. ends _ later rest got.1 (goes_on (made s.task (Tell index (ticket_number a)) answers.Done ∷ o))))

      tried : (found : Watchpoint) (taken : Bool) (later : List Record) (outcome none : Outcome) (own : List Record) → Hits s.rules.layout a found.word
          → MatchBool taken (FinderTells s a found.index later outcome rest) ((outcome ≡ none) × (rest ≡ later))
          → Goes (made s.task (TryConsume found.index found.word) (answers.Flag taken) ∷ own) later
      tried found true later outcome none own hits h = tells found.index found.word later outcome (made s.task (TryConsume found.index found.word) (answers.Flag true) ∷ own) refl hits h
      tried found false later outcome none own hits h = ends _ later rest h.1 (goes_on (made s.task (TryConsume found.index found.word) (answers.Flag false) ∷ own))

      takes : (found : Watchpoint) (records : List Record) (outcome : Outcome) (own : List Record) → Hits s.rules.layout a found.word → Takes s a found records outcome rest → Goes own records
      takes found records outcome own hits h = step_flag (TryConsume found.index found.word) _ records own h tt (λ taken later got. tried found taken later outcome _ own hits got)

      masked : (mask : Option ℕ) (found : Watchpoint) (records : List Record) (outcome none : Outcome) (own : List Record) → Hits s.rules.layout a found.word
          → MatchOption mask (Takes s a found records outcome rest) (λ m. (outcome ≡ none) × (rest ≡ records)) → Goes own records
      masked None found records outcome none own hits h = takes found records outcome own hits h
      masked (Some m) found records outcome none own hits h = ends own records rest h.1 (goes_on own)

      -- the setter gives its index back
      pub frees : (index : ℕ) (records own : List Record) → Frees s index records rest → Goes own records
      frees index records own h = step_done (Clear index) _ records own h (λ later got at. tt) (λ later got.
          step_done (Remove index) _ later (made s.task (Clear index) answers.Done ∷ own) got (λ after over at. tt) (λ after over.
          ends _ after rest over (goes_on (made s.task (Remove index) answers.Done ∷ made s.task (Clear index) answers.Done ∷ own))))

  -- what follows on a verdict is as long as the rest at least
  two_more : (index : ℕ) (records rest : List Record) → Frees s index records rest → length rest ≤ length records
  two_more index [] rest h = absurd h
  two_more index (first ∷ []) rest h = absurd h.2.1
  two_more index (first ∷ second ∷ later) rest h =
      let same : length rest ≡ length later = ap (λ (r : List Record). length r) h.2.1.2.1 in omega (arith, same)

  -- a setter that hasn't named itself, and one that has
  record HasArmed (a : Access) (from index number : ℕ) (hand : Option InHand) (own : List Record) : Type 0 where
    has : in_hand own ≡ hand
    since : from ≤ number
    armed : last_arming index own ≡ Some (record { setter = s.task; word = word_of s.rules.layout a })
    numbered : last_arming_number index own ≡ Some number

  record HasNamed (a : Access) (from index number : ℕ) (hand : Option InHand) (own : List Record) : Type 0 where
    has : in_hand own ≡ hand
    since : from ≤ number
    armed : last_arming index own ≡ Some (record { setter = s.task; word = word_of s.rules.layout a })
    numbered : last_arming_number index own ≡ Some number
    named : named_at index own ≡ Some (ticket_number a)

  abbrev inserted_at : ℕ → ℕ → Option InHand
  inserted_at index word = Some (record { index = index; part = parts.Inserted word })

  abbrev HasPlace : Access → ℕ → Option ℕ → List Record → Type 0
  HasPlace a from None own = Unit {0}
  HasPlace a from (Some index) own = (number : ℕ) × HasArmed a from index number (inserted_at index (word_of s.rules.layout a)) own

  -- one check of an access that has begun; these outcomes follow on its own
  module _ (b : Begun) (known : Known b) (unsilenced : b.silenced ≡ false) (more : List Fallen) (from total : ℕ) (rest : List Record)
      (window : (count : ℕ) → from ≤ count → count + length rest ≤ total → In b count)
      (goes_on : (own : List Record) → Goes from total more own rest) where
    abbrev its : Access
    its = b.access

    abbrev word : ℕ
    word = word_of s.rules.layout its

    abbrev out : Outcome → List Record → List Fallen
    out outcome later = record { access = its; outcome = outcome; later = later } ∷ more

    no_answer : (own records later : List Record) (outcome none : Outcome) → outcome ≡ none → is_answer none ≡ false → FallsSo own records its later outcome
    no_answer own records later outcome none is apart answers =
        absurd (let yes : is_answer outcome ≡ true = answers in let both : false ≡ true = sym apart ∙ (ap is_answer (sym is) ∙ yes) in cc)

    fell : (index : ℕ) (outcome : Outcome) (later own : List Record) → Frees s index later rest → (At from total own later → FallsSo own later its later outcome)
        → Goes from total (out outcome later) own later
    fell index outcome later own h falls at =
        let g = frees from total more b known unsilenced rest window goes_on index later own h at in (g.0, (falls at, g.1))

    untouched_falls : (values : Option (ℕ × ℕ)) (outcome : Outcome) (later own : List Record) → UntouchedOutcome s its values outcome → FallsSo own later its later outcome
    untouched_falls values outcome later own (verdicts.unknown change old new c v is o) = no_answer own later later outcome (outcomes.Unknown old new) o refl
    untouched_falls values outcome later own (verdicts.quiet change c v o) = no_answer own later later outcome outcomes.Quiet o refl

    hit_falls : (index number : ℕ) (values : Option (ℕ × ℕ)) (both : Halves) (outcome : Outcome) (later own : List Record) → (b.marked ≡ false) × Encodable b.access
        → HasNamed its from index number (Some (record { index = index; part = parts.Hit })) own → heard index own ≡ Some both → 0 < both.finder
        → HitOutcome s its values both outcome → length rest ≤ length later → At from total own later → FallsSo own later its later outcome
    hit_falls index number values both outcome later own unmarked it hears above verdict longer at = λ answers. (
      [],
      refl,
      record {
        pair = both;
        values = values;
        verdict = verdict;
        by = b;
        known = known;
        unmarked = unmarked.0;
        encodable = unmarked.1;
        unsilenced = unsilenced;
        is = refl;
        index = index;
        number = number;
        has = it.has;
        hears = hears;
        above = above;
        armed = it.armed;
        numbered = it.numbered;
        named = it.named;
        goes = λ count after most.
            let since : from ≤ number = it.since in
            let all : length own + length later ≡ total = at.all in
            window count (omega (arith, since, after)) (omega (arith, all, most, longer));
      },
    )

    consumed : (index number : ℕ) (values : Option (ℕ × ℕ)) (untouched : Bool) (outcome : Outcome) (records later own : List Record) → (b.marked ≡ false) × Encodable b.access
        → HasNamed its from index number (Some (record { index = index; part = parts.Named (ticket_number its) })) own
        → MatchBool untouched (UntouchedOutcome s its values outcome × (later ≡ records))
        ((both : Halves) × Hears finder_half s.task index records both later × HitOutcome s its values both outcome)
        → Frees s index later rest → Goes from total (out outcome later) (made s.task (Consume index) (answers.Flag untouched) ∷ own) records
    consumed index number values true outcome records later own unmarked it got free =
        let o : List Record = made s.task (Consume index) (answers.Flag true) ∷ own in
        subst (λ (r : List Record). Goes from total (out outcome later) o r) got.1 (fell index outcome later o free (λ at. untouched_falls values outcome later o got.0))
    consumed index number values false outcome records later own unmarked it got free =
        let o : List Record = made s.task (Consume index) (answers.Flag false) ∷ own in
        let Has : List Record → Type 0 = λ r. HasNamed its from index number (Some (record { index = index; part = parts.Hit })) r in
        hears from total (out outcome later) Has finder_half index
        (λ r both h. record { has = h.has; since = h.since; armed = h.armed; numbered = h.numbered; named = h.named })
        records got.0 later o (record { has = refl; since = it.since; armed = it.armed; numbered = it.numbered; named = it.named }) got.1
        (λ r h heard_so above. fell index outcome later r free (hit_falls index number values got.0 outcome later r unmarked h heard_so above got.2 (two_more index later rest free)))

    judges : (index number : ℕ) (values : Option (ℕ × ℕ)) (outcome : Outcome) (records later own : List Record) → (b.marked ≡ false) × Encodable b.access
        → HasNamed its from index number (Some (record { index = index; part = parts.Named (ticket_number its) })) own
        → Judges s its index values records outcome later → Frees s index later rest → Goes from total (out outcome later) own records
    judges index number values outcome records later own unmarked it h free =
        step_flag from total (out outcome later) (Consume index) _ records own h tt (λ untouched after got. consumed index number values untouched outcome after later own unmarked it got free)

    arms : (index number : ℕ) (outcome : Outcome) (records later own : List Record) → (b.marked ≡ false) × Encodable b.access → HasArmed its from index number (inserted_at index word) own
        → Arms s its index records outcome later → Frees s index later rest → Goes from total (out outcome later) own records
    arms index number outcome records later own unmarked it h free =
        let outs : List Fallen = out outcome later in
        let Has : List Record → Type 0 = λ r. HasNamed its from index number (Some (record { index = index; part = parts.Named (ticket_number its) })) r in
        let keeps : (r : List Record) (cell seen : ℕ) → Has r → Has (made s.task (CellLoad cell) (answers.Word seen) ∷ r) =
        λ r cell seen h. record { has = h.has; since = h.since; armed = h.armed; numbered = h.numbered; named = h.named } in
        step_done from total outs (Name index (ticket_number its)) _ records own h (λ after got at. tt) (λ after got.
        let o : List Record = made s.task (Name index (ticket_number its)) answers.Done ∷ own in
        let named : Has o = record { has = refl; since = it.since; armed = it.armed; numbered = it.numbered; named = rw (eq-eqb index index refl) refl } in
        loads_from from total outs Has keeps its (source_of s its) after got.0 got.2 o named got.4 (λ r has_r.
        loads_from from total outs Has keeps its (source_of s its) got.2 got.1 got.3 r has_r got.5 (λ q has_q.
        judges index number (both_values got.0 got.1) outcome got.3 later q unmarked has_q got.6 free)))

    module _ (outs : List Fallen) where
      stood : (accepted : Bool) (index : ℕ) (place : Option ℕ) (mid later own : List Record) (Tries : Type 0) → from ≤ length own
          → MatchBool accepted ((place ≡ Some index) × (mid ≡ later)) Tries
          → ((o : List Record) → HasPlace its from place o → Goes from total outs o mid)
          → (Tries → Goes from total outs (made s.task (Insert index word) (answers.Flag accepted) ∷ own) later)
          → Goes from total outs (made s.task (Insert index word) (answers.Flag accepted) ∷ own) later
      stood true index place mid later own Tries since got on again =
          let o : List Record = made s.task (Insert index word) (answers.Flag true) ∷ own in
          let it : HasArmed its from index (length own) (inserted_at index word) o =
          record { has = refl; since = since; armed = rw (eq-eqb index index refl) refl; numbered = rw (eq-eqb index index refl) refl } in
          subst (λ (r : List Record). Goes from total outs o r) got.1 (on o (subst (λ (p : Option ℕ). HasPlace its from p o) (sym got.0) (length own, it)))
      stood false index place mid later own Tries since got on again = again got

      tries_insert : (indices : List ℕ) (records : List Record) (place : Option ℕ) (mid own : List Record) → TriesInsert s.task word indices records place mid
          → ((o : List Record) → HasPlace its from place o → Goes from total outs o mid) → Goes from total outs own records
      tries_insert [] records place mid own h on =
          subst (λ (r : List Record). Goes from total outs own r) h.1 (on own (subst (λ (p : Option ℕ). HasPlace its from p own) (sym h.0) tt))
      tries_insert (index ∷ indices) records place mid own h on = λ at.
          step_flag from total outs (Insert index word) _ records own h tt (λ accepted later got.
          stood accepted index place mid later own _ at.begun got on (λ tries. tries_insert indices later place mid (made s.task (Insert index word) (answers.Flag accepted) ∷ own) tries on)) at

    -- where the outcome is no answer to a taking
    plainly : (pass : Pass) (outcome : Outcome) → pass.outcome ≡ outcome → ((own later : List Record) → FallsSo own rest its later outcome)
        → (own : List Record) → Goes from total (fallen_of its pass ∷ more) own rest
    plainly pass outcome is falls own at =
        let g = goes_on own at in (g.0, (subst (λ (x : Outcome). FallsSo own rest its pass.later x) (sym is) (falls own pass.later), g.1))

    watched_at : (asked : ℕ) (place : Option ℕ) (records : List Record) (judged : Option Judged) (later : List Record) (pass : Pass) (own : List Record) → (b.marked ≡ false) × Encodable b.access
        → HasPlace its from place own → WatchesAt s its place records judged later → Ends s asked judged later pass rest → Goes from total (fallen_of its pass ∷ more) own records
    watched_at asked None records judged later pass own unmarked it h left =
        let none : Ends s asked None later pass rest = subst (λ (j : Option Judged). Ends s asked j later pass rest) h.0 left in
        subst (λ (r : List Record). Goes from total (fallen_of its pass ∷ more) own r) (none.1 ∙ h.1)
        (plainly pass outcomes.Capacity (ap (λ (p : Pass). p.outcome) none.0) (λ o r. no_answer o rest r outcomes.Capacity outcomes.Capacity refl refl) own)
    watched_at asked (Some index) records judged later pass own unmarked it h left =
        let some : Ends s asked (Some (record { index = index; outcome = h.0 })) later pass rest = subst (λ (j : Option Judged). Ends s asked j later pass rest) h.2 left in
        subst (λ (p : Pass). Goes from total (fallen_of its p ∷ more) own records) (sym some.0)
        (arms index it.0 h.0 records later own unmarked it.1 h.1 some.1)

    none_found : (asked : ℕ) (records : List Record) (pass : Pass) (own : List Record) → NoneFound s its b.marked asked records pass rest
        → Goes from total (fallen_of its pass ∷ more) own records
    none_found asked records pass own (cases.counts_as_marked m is r) =
        subst (λ (x : List Record). Goes from total (fallen_of its pass ∷ more) own x) r (plainly pass outcomes.Nothing (ap (λ (p : Pass). p.outcome) is) (λ o l. no_answer o rest l outcomes.Nothing outcomes.Nothing refl refl) own)
    none_found asked records pass own (cases.skipped m n is r) =
        subst (λ (x : List Record). Goes from total (fallen_of its pass ∷ more) own x) r (plainly pass outcomes.Nothing (ap (λ (p : Pass). p.outcome) is) (λ o l. no_answer o rest l outcomes.Nothing outcomes.Nothing refl refl) own)
    none_found asked records pass own (cases.unencodable m w n is r) =
        subst (λ (x : List Record). Goes from total (fallen_of its pass ∷ more) own x) r
        (plainly pass outcomes.Unencodable (ap (λ (p : Pass). p.outcome) is) (λ o l. no_answer o rest l outcomes.Unencodable outcomes.Unencodable refl refl) own)
    none_found asked records pass own (cases.watched judged later unmarked w encodable up left) =
        tries_insert (fallen_of its pass ∷ more) (try_order (slot_of s its)) records up.0 up.1 own up.2
        (λ o it. watched_at (asked + 1) up.0 up.1 judged later pass o (unmarked, encodable) it up.3 left)

    -- what comes of a watchpoint that was found is no answer to a taking
    taken_falls : (taken : Bool) (found : Watchpoint) (records : List Record) (outcome : Outcome) (own later : List Record)
        → MatchBool taken (FinderTells s its found.index records outcome rest) ((outcome ≡ outcomes.Lost) × (rest ≡ records)) → FallsSo own rest its later outcome
    taken_falls true found records outcome own later h =
        no_answer own rest later outcome (outcomes.Told (record { setter = h.0.setter; finder = ticket_number its })) (told_is h.1 h.3) refl
      where
        told_is : (records : List Record) → MakesDone s.task (Tell found.index (ticket_number its)) (λ after.
            (outcome ≡ outcomes.Told (record { setter = h.0.setter; finder = ticket_number its })) × (rest ≡ after)) records
            → outcome ≡ outcomes.Told (record { setter = h.0.setter; finder = ticket_number its })
        told_is [] made_so = absurd made_so
        told_is (first ∷ more_records) made_so = made_so.2.1.0
    taken_falls false found records outcome own later h = no_answer own rest later outcome outcomes.Lost h.0 refl

    found_falls : (mask : Option ℕ) (found : Watchpoint) (records : List Record) (outcome : Outcome) (own later : List Record)
        → MatchOption mask (Takes s its found records outcome rest) (λ m. (outcome ≡ outcomes.Nothing) × (rest ≡ records)) → FallsSo own rest its later outcome
    found_falls None found [] outcome own later h = absurd h
    found_falls None found (first ∷ records) outcome own later h =
        let got = on_flag first.answer _ h.2 in taken_falls got.0 found records outcome own later got.2
    found_falls (Some m) found records outcome own later h = no_answer own rest later outcome outcomes.Nothing h.0 refl

    goes_from : (asked : ℕ) (found : Option Watchpoint) (records : List Record) (pass : Pass) (own : List Record) → FoundSo its found
        → GoesOn s its b.marked asked found records pass rest → Goes from total (fallen_of its pass ∷ more) own records
    goes_from asked None records pass own hits h = none_found asked records pass own h
    goes_from asked (Some found) records pass own hits h =
        masked from total (fallen_of its pass ∷ more) b known unsilenced rest window
        (plainly pass pass.outcome refl (λ o later. found_falls its.mask found records pass.outcome o later h.3)) its.mask found records pass.outcome outcomes.Nothing own hits h.3

    pub once : (asked : ℕ) (records : List Record) (pass : Pass) (own : List Record) → ChecksOnce s its b.marked asked records pass rest
        → Goes from total (fallen_of its pass ∷ more) own records
    once asked records pass own h =
        looks_up from total (fallen_of its pass ∷ more) its (look_order (slot_of s its)) records h.0 h.1 own h.2 (λ o hits. goes_from asked h.0 h.1 pass o hits h.3)
