-- After a watch of an access its task has last named itself by the access's ticket.
use Rattle.std.proofs.Common.{◌≡◌, ◌∙◌, ◌++◌, ◌∷◌, [], inl, inr, ℕ, Bool, true, false, List, MatchBool, None, Option, Some, ap, append_assoc, refl, reverse, subst, sym}
use Rattle.std.proofs.lemmas.List.{reverse-append}
use Rattle.std.specs.Option.{option_or}
use Rattle.access_types.specs.Access.{Access}
use Rattle.access_types.specs.Ticket.{ticket_number}
use Rattle.litmus_syntax.specs.Tree.{Block}
use Rattle.executions.proofs.execution.CheckFacts.{back}
use Rattle.log_correctness.specs.Noted.{AreNoted}
use Rattle.setup_access.specs.Found.{Hears, finder_half}
use Rattle.setup_access.specs.Setting.{Setting, slot_of, try_order}
use Rattle.setup_access.specs.Setup.{Arms, Judged, Judges, SetsUp, TriesInsert, WatchesAt}
use Rattle.setup_access.specs.Values.{LoadsFrom, both_values, source_of}
use Rattle.setup_access.specs.Verdicts.{HitOutcome, UntouchedOutcome}
use Rattle.setup_access.specs.declared.outcome.Outcome.{Outcome}
use Rattle.setup_access.specs.declared.source.Source.{Source}
use Rattle.setup_access.proofs.DisciplineLemmas.{on_flag, on_halves, on_word}
use Rattle.slot.specs.Pair.{Halves}
use Rattle.slot_table.specs.declared.records.Record.{Record}
use Rattle.slot_table.specs.declared.step.Step.{Step}
use Rattle.slot_table.specs.declared.step.Step.TheVariants.{CellLoad, Consume, PairLoad}
use Rattle.task_log.specs.Noted.{last_of, named, named_by}
use Rattle.task_log.specs.declared.noted.Noted.{Noted}
use Rattle.program_order.specs.Standing as tasks
use Rattle.program_order.specs.WrittenOrder.{WrittenOrder}

-- the ticket by which a task's records, the latest first, last named it
abbrev pub last_name : List Record → Option ℕ
last_name [] = None
last_name (latest ∷ earlier) = option_or (named_by latest.step) (last_name earlier)

pub names_noted : {s : tasks.Setting} {registers : ℕ} {body : Block} {records : List Record} (written : WrittenOrder s registers body records) (own : List Record)
    (noted : List Noted) → AreNoted written own noted → last_of named noted ≡ last_name own
names_noted written [] [] are = refl
names_noted written [] (noted ∷ before) are = absurd are
names_noted written (latest ∷ earlier) [] are = absurd are
names_noted written (latest ∷ earlier) (noted ∷ before) are =
    ap (λ (st : Step). option_or (named_by st) (last_of named before)) are.1.step
    ∙ ap (λ (o : Option ℕ). option_or (named_by latest.step) o) (names_noted written earlier before are.0)

pub back_is : (p own : List Record) → back p own ≡ reverse p ++ own
back_is [] own = refl
back_is (first ∷ later) own =
    back_is later (first ∷ own) ∙ (sym (append_assoc (reverse later) (first ∷ []) own)
    ∙ ap (λ (r : List Record). r ++ own) (sym (reverse-append (first ∷ []) later)))

module _ (s : Setting) (a : Access) where
  abbrev Named : List Record → Type 0
  Named own = last_name own ≡ Some (ticket_number a)

  keeps : (first : Record) (step : Step) (own : List Record) → first.step ≡ step → named_by step ≡ None → Named own → Named (first ∷ own)
  keeps first step own is none named_so =
      ap (λ (o : Option ℕ). option_or o (last_name own)) (ap named_by is ∙ none) ∙ named_so

  hears_named : (index : ℕ) (records : List Record) (both : Halves) (own : List Record) → Hears finder_half s.task index records both [] → Named own
      → Named (back records own)
  hears_named index [] both own h named_so = absurd h
  hears_named index (first ∷ later) both own h named_so =
      let got = on_halves first.answer _ h.2 in
      let now : Named (first ∷ own) = keeps first (PairLoad index) own h.1 refl named_so in
      elim got.2 [
        | inl p ↦ subst (λ (r : List Record). Named (back r (first ∷ own))) p.2 now
        | inr q ↦ hears_named index later both (first ∷ own) q.1 now
      ]

  loads_named : (source : Option Source) (records : List Record) (value : Option ℕ) (rest : List Record) → LoadsFrom s a source records value rest
      → ((own : List Record) → Named own → Named (back rest own)) → (own : List Record) → Named own → Named (back records own)
  loads_named None records value rest h on own named_so = subst (λ (r : List Record). Named (back r own)) h.1 (on own named_so)
  loads_named (Some source) [] value rest h on own named_so = absurd h
  loads_named (Some source) (first ∷ later) value rest h on own named_so =
      let got = on_word first.answer _ h.2 in
      subst (λ (r : List Record). Named (back r (first ∷ own))) got.2.1 (on (first ∷ own) (keeps first (CellLoad source.cell) own h.1 refl named_so))

  judged_named : (index : ℕ) (untouched : Bool) (Quiet : Type 0) (Verdict : Halves → Type 0) (later own : List Record)
      → MatchBool untouched (Quiet × ([] ≡ later))
      ((both : Halves) × Hears finder_half s.task index later both [] × Verdict both) → Named own → Named (back later own)
  judged_named index true Quiet Verdict later own h named_so = subst (λ (r : List Record). Named (back r own)) h.1 named_so
  judged_named index false Quiet Verdict later own h named_so = hears_named index later h.0 own h.1 named_so

  judges_named : (index : ℕ) (values : Option (ℕ × ℕ)) (records : List Record) (outcome : Outcome) → Judges s a index values records outcome []
      → (own : List Record) → Named own → Named (back records own)
  judges_named index values [] outcome h own named_so = absurd h
  judges_named index values (first ∷ later) outcome h own named_so =
      let got = on_flag first.answer _ h.2 in
      judged_named index got.0 (UntouchedOutcome s a values outcome) (λ both. HitOutcome s a values both outcome) later (first ∷ own) got.2 (keeps first (Consume index) own h.1 refl named_so)

  arms_named : (index : ℕ) (records : List Record) (outcome : Outcome) → Arms s a index records outcome [] → (own : List Record) → Named (back records own)
  arms_named index [] outcome h own = absurd h
  arms_named index (first ∷ later) outcome h own =
      let now : Named (first ∷ own) = ap (λ (st : Step). option_or (named_by st) (last_name own)) h.1 in
      let got = h.2.1 in
      loads_named (source_of s a) later got.0 got.2 got.4
      (loads_named (source_of s a) got.2 got.1 got.3 got.5 (judges_named index (both_values got.0 got.1) got.3 outcome got.6)) (first ∷ own) now

  watches_named : (place : Option ℕ) (records : List Record) (judged : Judged) → WatchesAt s a place records (Some judged) [] → (own : List Record)
      → Named (back records own)
  watches_named None records judged h own = absurd (let no : Some judged ≡ None = h.0 in cc)
  watches_named (Some index) records judged h own = arms_named index records h.0 h.1 own

  tries_named : (word : ℕ) (indices : List ℕ) (records : List Record) (place : Option ℕ) (rest : List Record) → TriesInsert s.task word indices records place rest
      → ((own : List Record) → Named (back rest own)) → (own : List Record) → Named (back records own)
  tries_named word [] records place rest h on own = subst (λ (r : List Record). Named (back r own)) h.1 (on own)
  tries_named word (index ∷ indices) [] place rest h on own = absurd h
  tries_named word (index ∷ indices) (first ∷ later) place rest h on own =
      let got = on_flag first.answer _ h.2 in
      by_answer got.0 (λ again. tries_named word indices later place rest again on (first ∷ own)) got.2
    where
      by_answer : (accepted : Bool) → (TriesInsert s.task word indices later place rest → Named (back later (first ∷ own)))
          → MatchBool accepted ((place ≡ Some index) × (rest ≡ later)) (TriesInsert s.task word indices later place rest)
          → Named (back later (first ∷ own))
      by_answer true goes_again stood = subst (λ (r : List Record). Named (back r (first ∷ own))) stood.1 (on (first ∷ own))
      by_answer false goes_again again = goes_again again

  -- so after its watch, whatever came before
  pub watch_named : (word : ℕ) (watch : List Record) (judged : Judged) → SetsUp s a word watch (Some judged) [] → (own : List Record)
      → last_name (reverse watch ++ own) ≡ Some (ticket_number a)
  watch_named word watch judged h own =
      subst (λ (r : List Record). last_name r ≡ Some (ticket_number a)) (back_is watch own)
      (tries_named word (try_order (slot_of s a)) watch h.0 h.1 h.2 (λ o. watches_named h.0 h.1 judged h.3 o) own)
