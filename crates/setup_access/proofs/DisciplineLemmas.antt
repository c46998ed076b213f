-- Step by step: what is in hand after each part of a check is what the next part may go on from. Each lemma is told how
-- to go on.
use Rattle.std.proofs.Common.{◌≡◌, ◌<◌, ◌∙◌, ◌∷◌, ◌+◌, ◌++◌, ◌||◌, [], ℕ, Bool, IsTrue, reverse, true, false, List, Option, None, Some, MatchBool, MatchOption, ap, inl, inr, refl, subst, sym}
use Rattle.std.proofs.lemmas.Bool.{eq-eqb}
use Rattle.std.proofs.lemmas.List.{append_assoc, append-nil, reverse-append}
use Rattle.access_types.specs.Access.{Access, IsInLimits}
use Rattle.access_types.specs.Ticket.{ReadsBack, ticket_number}
use Rattle.slot.specs.Pair.{Halves}
use Rattle.slot_table.specs.Discipline.{Allows, Discipline, IsFinished, HasPart, IsOwnTicket, hand_after, heard, holds, in_hand, last_load}
use Rattle.slot_table.specs.declared.discipline.InHand.{InHand}
use Rattle.slot_table.specs.declared.discipline.Part.TheVariants as parts
use Rattle.slot_table.specs.declared.records.Record.{Record}
use Rattle.slot_table.specs.declared.step.Answer.{Answer}
use Rattle.slot_table.specs.declared.step.Answer.TheVariants as answers
use Rattle.slot_table.specs.declared.step.Step.{Step}
use Rattle.slot_table.specs.declared.step.Step.TheVariants.{CellExchange, CellLoad, Clear, Clock, Consume, Insert, Load, LockStore, LockTry, Name, PairLoad, Remove, Tell, TryConsume}
use Rattle.watch_word.specs.Layout.{word_span}
use Rattle.watch_word.specs.Word.{Encodable, WordOf, word_of}
use Rattle.watch_word.specs.declared.layout.Layout.{Layout}
use Rattle.setup_access.specs.Check as cases
use Rattle.setup_access.specs.Check.{Check, ChecksOnce, Close, Ends, GoesOn, NoneFound, Pass, Passes, Rechecks, left_to_check}
use Rattle.setup_access.specs.Find.{LooksUp}
use Rattle.setup_access.specs.Found.{FoundWatchpoint, Hears, Takes, FinderTells, finder_half, setter_half}
use Rattle.setup_access.specs.MadeOfChecks as shapes
use Rattle.setup_access.specs.MadeOfChecks.{FreesHeldLocks, IsBesides, MadeOfChecks}
use Rattle.setup_access.specs.OwnAccesses.{AreOwn, IsOwn}
use Rattle.setup_access.specs.Parts.{made}
use Rattle.setup_access.specs.Records.{MakesDone, MakesFlag, MakesWord, OnFlag, OnHalves, OnWord}
use Rattle.setup_access.specs.Setting.{Setting, look_order, slot_of, try_order}
use Rattle.setup_access.specs.Setup.{Arms, Frees, Judged, Judges, JudgesHit, SetsUp, TriesInsert, Watches, WatchesAt}
use Rattle.setup_access.specs.Values.{LoadsFrom, both_values, source_of}
use Rattle.setup_access.specs.declared.begun.Begun.{Begun}
use Rattle.setup_access.specs.Verdicts.{UntouchedOutcome}
use Rattle.setup_access.specs.declared.outcome.Outcome.{Outcome}
use Rattle.setup_access.specs.declared.outcome.Outcome.TheVariants.{Lost, Nothing}
use Rattle.setup_access.specs.declared.outcome.Watchpoint.{Watchpoint}
use Rattle.setup_access.specs.declared.source.Source.{Source}

-- each of the records, the oldest first, is a step that the task may make after its own ones before it, the latest of
-- those first
abbrev pub KeepsFrom : ℕ → List Record → List Record → Type 0
KeepsFrom task earlier [] = Unit {0}
KeepsFrom task earlier (first ∷ later) = Allows task earlier first.step × KeepsFrom task (first ∷ earlier) later

-- what is in hand after them
abbrev pub hand_from : List Record → List Record → Option InHand
hand_from earlier [] = in_hand earlier
hand_from earlier (first ∷ later) = hand_from (first ∷ earlier) later

-- the records keep the discipline, if they free only locks that are held, and nothing is in hand after them
abbrev pub Good : ℕ → List Record → List Record → Type 0
Good task earlier records = (FreesHeldLocks earlier records → KeepsFrom task earlier records) × (hand_from earlier records ≡ None)

-- one record before them
good_on : (task : ℕ) (earlier later : List Record) (first : Record) → Allows task earlier first.step → Good task (first ∷ earlier) later → Good task earlier (first ∷ later)
good_on task earlier later first ok good = (λ held. (ok, good.0 held.1), good.1)

pub on_word : (answer : Answer) (P : ℕ → Type 0) → OnWord answer P → (word : ℕ) × (answer ≡ answers.Word word) × P word
on_word (answers.Word word) P h = (word, refl, h)
on_word (answers.Flag flag) P h = absurd h
on_word (answers.Halves setter finder) P h = absurd h
on_word answers.Done P h = absurd h

pub on_flag : (answer : Answer) (P : Bool → Type 0) → OnFlag answer P → (flag : Bool) × (answer ≡ answers.Flag flag) × P flag
on_flag (answers.Word word) P h = absurd h
on_flag (answers.Flag flag) P h = (flag, refl, h)
on_flag (answers.Halves setter finder) P h = absurd h
on_flag answers.Done P h = absurd h

pub on_halves : (answer : Answer) (P : Halves → Type 0) → OnHalves answer P
    → (both : Halves) × (answer ≡ answers.Halves both.setter both.finder) × P both
on_halves (answers.Word word) P h = absurd h
on_halves (answers.Flag flag) P h = absurd h
on_halves (answers.Halves setter finder) P h = (record { setter = setter; finder = finder }, refl, h)
on_halves answers.Done P h = absurd h

-- a record with this task, step and answer is this one
pub record_is : (first : Record) (task : ℕ) (step : Step) (answer : Answer) → first.task ≡ task → first.step ≡ step → first.answer ≡ answer → first ≡ made task step answer
record_is first task step answer p q r =
    ap (λ t. made t first.step first.answer) p ∙ ap (λ t. made task t first.answer) q ∙ ap (λ t. made task step t) r

-- a step that is allowed, with its answer, and then what goes on
pub step_word : (task : ℕ) (step : Step) (Goes : ℕ → List Record → Type 0) (records earlier : List Record) → MakesWord task step Goes records → Allows task earlier step
    → ((word : ℕ) (later : List Record) → Goes word later → Good task (made task step (answers.Word word) ∷ earlier) later) → Good task earlier records
step_word task step Goes [] earlier h ok on = absurd h
step_word task step Goes (first ∷ later) earlier h ok on =
    let got = on_word first.answer (λ w. Goes w later) h.2 in
    subst (λ (r : Record). Good task earlier (r ∷ later)) (sym (record_is first task step (answers.Word got.0) h.0 h.1 got.1))
    (good_on task earlier later (made task step (answers.Word got.0)) ok (on got.0 later got.2))

pub step_flag : (task : ℕ) (step : Step) (Goes : Bool → List Record → Type 0) (records earlier : List Record) → MakesFlag task step Goes records → Allows task earlier step
    → ((flag : Bool) (later : List Record) → Goes flag later → Good task (made task step (answers.Flag flag) ∷ earlier) later) → Good task earlier records
step_flag task step Goes [] earlier h ok on = absurd h
step_flag task step Goes (first ∷ later) earlier h ok on =
    let got = on_flag first.answer (λ w. Goes w later) h.2 in
    subst (λ (r : Record). Good task earlier (r ∷ later)) (sym (record_is first task step (answers.Flag got.0) h.0 h.1 got.1))
    (good_on task earlier later (made task step (answers.Flag got.0)) ok (on got.0 later got.2))

pub step_done : (task : ℕ) (step : Step) (Goes : List Record → Type 0) (records earlier : List Record) → MakesDone task step Goes records → Allows task earlier step
    → ((later : List Record) → Goes later → Good task (made task step answers.Done ∷ earlier) later) → Good task earlier records
step_done task step Goes [] earlier h ok on = absurd h
step_done task step Goes (first ∷ later) earlier h ok on =
    subst (λ (r : Record). Good task earlier (r ∷ later)) (sym (record_is first task step answers.Done h.0 h.1 h.2.0))
    (good_on task earlier later (made task step answers.Done) ok (on later h.2.1))

-- what the records end with is what is left
ends : (task : ℕ) (earlier records rest : List Record) → rest ≡ records → Good task earlier rest → Good task earlier records
ends task earlier records rest same good = subst (λ (r : List Record). Good task earlier r) same good

-- a pair load that heard
heard_here : (task index : ℕ) (both : Halves) (earlier : List Record) → heard index (made task (PairLoad index) (answers.Halves both.setter both.finder) ∷ earlier) ≡ Some both
heard_here task index both earlier = rw (eq-eqb index index refl) refl

-- a load that was answered
loaded_here : (task index word : ℕ) (earlier : List Record) → last_load index (made task (Load index) (answers.Word word) ∷ earlier) ≡ Some word
loaded_here task index word earlier = rw (eq-eqb index index refl) refl

-- a wait for a half leaves in hand what was there, and heard that half
hears : (half : Halves → ℕ) (task index : ℕ) (records : List Record) (both : Halves) (rest earlier : List Record) (hand : Option InHand)
    → in_hand earlier ≡ hand → Hears half task index records both rest
    → ((own : List Record) → in_hand own ≡ hand → heard index own ≡ Some both → 0 < half both → Good task own rest) → Good task earlier records
hears half task index [] both rest earlier hand is h on = absurd h
hears half task index (first ∷ later) both rest earlier hand is h on =
    let got = on_halves first.answer _ h.2 in
    let pair : Record = made task (PairLoad index) (answers.Halves got.0.setter got.0.finder) in
    let goes : Good task (pair ∷ earlier) later = elim got.2 [
      | inl p ↦ ends task (pair ∷ earlier) later rest p.2
          (on (pair ∷ earlier) is (heard_here task index got.0 earlier ∙ ap Some (sym p.1)) (subst (λ (b : Halves). 0 < half b) (sym p.1) p.0))
      | inr q ↦ hears half task index later both rest (pair ∷ earlier) hand is q.1 on
    ] in
    subst (λ (r : Record). Good task earlier (r ∷ later)) (sym (record_is first task (PairLoad index) (answers.Halves got.0.setter got.0.finder) h.0 h.1 got.1))
    (good_on task earlier later pair tt goes)

-- the word that was found was the last one loaded there
abbrev pub HasRead : List Record → Option Watchpoint → Type 0
HasRead own None = Unit {0}
HasRead own (Some found) = (1 < found.word) × (last_load found.index own ≡ Some found.word)

-- a look-up leaves nothing in hand, and has read what it found
pub looks_up : (s : Setting) (a : Access) (indices : List ℕ) (records : List Record) (found : Option Watchpoint) (rest earlier : List Record)
    → in_hand earlier ≡ None → LooksUp s a indices records found rest
    → ((own : List Record) → in_hand own ≡ None → HasRead own found → Good s.task own rest) → Good s.task earlier records
looks_up s a [] records found rest earlier free h on =
    ends s.task earlier records rest h.1 (on earlier free (subst (λ (f : Option Watchpoint). HasRead earlier f) (sym h.0) tt))
looks_up s a (index ∷ indices) records found rest earlier free h on =
    step_word s.task (Load index) _ records earlier h tt (λ word later got.
    let own : List Record = made s.task (Load index) (answers.Word word) ∷ earlier in
    elim got [
      | inl p ↦ ends s.task own later rest p.2 (on own free (subst (λ (f : Option Watchpoint). HasRead own f) (sym p.1) (p.0.is_watch_word.above_one, loaded_here s.task index word earlier)))
      | inr q ↦ looks_up s a indices later found rest own free q.1 on
    ])

module _ (s : Setting) (a : Access) (own_ticket : IsOwnTicket s.task (ticket_number a)) where
  -- a finder that took hears its setter and tells
  tells : (index word : ℕ) (records : List Record) (outcome : Outcome) (rest earlier : List Record) → HasPart index (parts.Taken word) earlier → FinderTells s a index records outcome rest
      → ((own : List Record) → in_hand own ≡ None → Good s.task own rest) → Good s.task earlier records
  tells index word records outcome rest earlier has h on =
      hears setter_half s.task index records h.0 h.1 earlier _ has h.2 (λ own is both above.
      step_done s.task (Tell index (ticket_number a)) _ h.1 own h.3 (own_ticket, (word, is), (h.0, both, above)) (λ later got.
      ends s.task _ later rest got.1 (on (made s.task (Tell index (ticket_number a)) answers.Done ∷ own) refl)))

  -- a try
  tried : (found : Watchpoint) (taken : Bool) (records : List Record) (outcome : Outcome) (rest earlier : List Record) (gone : Outcome) → in_hand earlier ≡ None
      → MatchBool taken (FinderTells s a found.index records outcome rest) ((outcome ≡ gone) × (rest ≡ records))
      → ((own : List Record) → in_hand own ≡ None → Good s.task own rest)
      → Good s.task (made s.task (TryConsume found.index found.word) (answers.Flag taken) ∷ earlier) records
  tried found true records outcome rest earlier gone free h on = tells found.index found.word records outcome rest (made s.task (TryConsume found.index found.word) (answers.Flag true) ∷ earlier) refl h on
  tried found false records outcome rest earlier gone free h on = ends s.task _ records rest h.1 (on (made s.task (TryConsume found.index found.word) (answers.Flag false) ∷ earlier) free)

  takes : (found : Watchpoint) (records : List Record) (outcome : Outcome) (rest earlier : List Record) → in_hand earlier ≡ None → HasRead earlier (Some found)
      → Takes s a found records outcome rest → ((own : List Record) → in_hand own ≡ None → Good s.task own rest) → Good s.task earlier records
  takes found records outcome rest earlier free read h on =
      step_flag s.task (TryConsume found.index found.word) _ records earlier h (read.0, read.1, free) (λ taken later got.
      tried found taken later outcome rest earlier Lost free got on)

  masked : (mask : Option ℕ) (found : Watchpoint) (records : List Record) (outcome none : Outcome) (rest earlier : List Record) → in_hand earlier ≡ None → HasRead earlier (Some found)
      → MatchOption mask (Takes s a found records outcome rest) (λ m. (outcome ≡ none) × (rest ≡ records))
      → ((own : List Record) → in_hand own ≡ None → Good s.task own rest) → Good s.task earlier records
  masked None found records outcome none rest earlier free read h on = takes found records outcome rest earlier free read h on
  masked (Some m) found records outcome none rest earlier free read h on = ends s.task earlier records rest h.1 (on earlier free)

  -- a watchpoint that was found leaves nothing in hand
  pub found_watchpoint : (found : Watchpoint) (records : List Record) (outcome : Outcome) (rest earlier : List Record) → in_hand earlier ≡ None → HasRead earlier (Some found)
      → FoundWatchpoint s a found records outcome rest → ((own : List Record) → in_hand own ≡ None → Good s.task own rest) → Good s.task earlier records
  found_watchpoint found records outcome rest earlier free read h on = masked a.mask found records outcome Nothing rest earlier free read h on

  -- what is in hand after the tries to insert
  abbrev HasInserted : List Record → ℕ → Option ℕ → Type 0
  HasInserted own word None = in_hand own ≡ None
  HasInserted own word (Some index) = HasPart index (parts.Inserted word) own

  inserted : (word index : ℕ) (accepted : Bool) (records : List Record) (place : Option ℕ) (rest earlier : List Record) (More : Type 0) → in_hand earlier ≡ None
      → MatchBool accepted ((place ≡ Some index) × (rest ≡ records)) More
      → ((own : List Record) → HasInserted own word place → Good s.task own rest)
      → (in_hand earlier ≡ None → More → Good s.task (made s.task (Insert index word) (answers.Flag false) ∷ earlier) records)
      → Good s.task (made s.task (Insert index word) (answers.Flag accepted) ∷ earlier) records
  inserted word index true records place rest earlier More free h on more =
      ends s.task _ records rest h.1 (on (made s.task (Insert index word) (answers.Flag true) ∷ earlier) (subst (λ (p : Option ℕ). HasInserted (made s.task (Insert index word) (answers.Flag true) ∷ earlier) word p) (sym h.0) refl))
  inserted word index false records place rest earlier More free h on more = more free h

  tries_insert : (word : ℕ) (indices : List ℕ) (records : List Record) (place : Option ℕ) (rest earlier : List Record) → 1 < word → in_hand earlier ≡ None
      → TriesInsert s.task word indices records place rest
      → ((own : List Record) → HasInserted own word place → Good s.task own rest) → Good s.task earlier records
  tries_insert word [] records place rest earlier above free h on =
      ends s.task earlier records rest h.1 (on earlier (subst (λ (p : Option ℕ). HasInserted earlier word p) (sym h.0) free))
  tries_insert word (index ∷ indices) records place rest earlier above free h on =
      step_flag s.task (Insert index word) _ records earlier h (above, free) (λ accepted later got.
      inserted word index accepted later place rest earlier (TriesInsert s.task word indices later place rest) free got on (λ still refused.
      tries_insert word indices later place rest (made s.task (Insert index word) (answers.Flag false) ∷ earlier) above still refused on))

  -- the load of a value leaves in hand what was there
  loads : (source : Option Source) (records : List Record) (value : Option ℕ) (rest earlier : List Record) (hand : Option InHand) → in_hand earlier ≡ hand
      → LoadsFrom s a source records value rest → ((own : List Record) → in_hand own ≡ hand → Good s.task own rest) → Good s.task earlier records
  loads None records value rest earlier hand is h on = ends s.task earlier records rest h.1 (on earlier is)
  loads (Some source) records value rest earlier hand is h on =
      step_word s.task (CellLoad source.cell) _ records earlier h tt (λ word later got. ends s.task _ later rest got.1 (on (made s.task (CellLoad source.cell) (answers.Word word) ∷ earlier) is))

  judged_by : (index : ℕ) (untouched : Bool) (values : Option (ℕ × ℕ)) (records : List Record) (outcome : Outcome) (rest earlier : List Record) (Verdict : Type 0)
      → MatchBool untouched (Verdict × (rest ≡ records)) (JudgesHit s a index values records outcome rest)
      → ((own : List Record) → Allows s.task own (Clear index) → Good s.task own rest)
      → Good s.task (made s.task (Consume index) (answers.Flag untouched) ∷ earlier) records
  judged_by index true values records outcome rest earlier Verdict h on = ends s.task _ records rest h.1 (on (made s.task (Consume index) (answers.Flag true) ∷ earlier) (inl refl))
  judged_by index false values records outcome rest earlier Verdict h on =
      hears finder_half s.task index records h.0 rest (made s.task (Consume index) (answers.Flag false) ∷ earlier) (Some (record { index = index; part = parts.Hit })) refl h.1 (λ own is both above. on own (inr (is, (h.0, both, above))))

  judges : (index : ℕ) (values : Option (ℕ × ℕ)) (records : List Record) (outcome : Outcome) (rest earlier : List Record) (ticket : ℕ) → HasPart index (parts.Named ticket) earlier
      → Judges s a index values records outcome rest → ((own : List Record) → Allows s.task own (Clear index) → Good s.task own rest) → Good s.task earlier records
  judges index values records outcome rest earlier ticket has h on =
      step_flag s.task (Consume index) _ records earlier h (ticket, has) (λ untouched later got. judged_by index untouched values later outcome rest earlier (UntouchedOutcome s a values outcome) got on)

  watches : (index : ℕ) (records : List Record) (outcome : Outcome) (rest earlier : List Record) (ticket : ℕ) → HasPart index (parts.Named ticket) earlier
      → Watches s a index records outcome rest → ((own : List Record) → Allows s.task own (Clear index) → Good s.task own rest) → Good s.task earlier records
  watches index records outcome rest earlier ticket has h on =
      loads (source_of s a) records h.0 h.2 earlier _ has h.4 (λ own is.
      loads (source_of s a) h.2 h.1 h.3 own _ is h.5 (λ after still.
      judges index (both_values h.0 h.1) h.3 outcome rest after ticket still h.6 on))

  arms : (index word : ℕ) (records : List Record) (outcome : Outcome) (rest earlier : List Record) → HasPart index (parts.Inserted word) earlier
      → Arms s a index records outcome rest → ((own : List Record) → Allows s.task own (Clear index) → Good s.task own rest) → Good s.task earlier records
  arms index word records outcome rest earlier has h on =
      step_done s.task (Name index (ticket_number a)) _ records earlier h (own_ticket, word, has) (λ later got.
      watches index later outcome rest (made s.task (Name index (ticket_number a)) answers.Done ∷ earlier) (ticket_number a) refl got on)

  frees : (index : ℕ) (records rest earlier : List Record) → Allows s.task earlier (Clear index) → Frees s index records rest
      → ((own : List Record) → in_hand own ≡ None → Good s.task own rest) → Good s.task earlier records
  frees index records rest earlier ok h on =
      step_done s.task (Clear index) _ records earlier h ok (λ later got.
      let cleared : List Record = made s.task (Clear index) answers.Done ∷ earlier in
      step_done s.task (Remove index) _ later cleared got refl (λ after over. ends s.task _ after rest over (on (made s.task (Remove index) answers.Done ∷ cleared) refl)))

  -- a watch, and its end, leave nothing in hand
  watched_at : (word asked : ℕ) (place : Option ℕ) (records : List Record) (judged : Option Judged) (later : List Record) (pass : Pass) (rest earlier : List Record) → HasInserted earlier word place
      → WatchesAt s a place records judged later → Ends s asked judged later pass rest
      → ((own : List Record) → in_hand own ≡ None → Good s.task own rest) → Good s.task earlier records
  watched_at word asked None records judged later pass rest earlier has h left on =
      let none : Ends s asked None later pass rest = subst (λ (j : Option Judged). Ends s asked j later pass rest) h.0 left in
      ends s.task earlier records later h.1 (ends s.task earlier later rest none.1 (on earlier has))
  watched_at word asked (Some index) records judged later pass rest earlier has h left on =
      let some : Ends s asked (Some (record { index = index; outcome = h.0 })) later pass rest = subst (λ (j : Option Judged). Ends s asked j later pass rest) h.2 left in
      arms index word records h.0 later earlier has h.1 (λ own ok. frees index later rest own ok some.1 on)

  sets_up : (word asked : ℕ) (records : List Record) (judged : Option Judged) (later : List Record) (pass : Pass) (rest earlier : List Record) → 1 < word → in_hand earlier ≡ None
      → SetsUp s a word records judged later → Ends s asked judged later pass rest
      → ((own : List Record) → in_hand own ≡ None → Good s.task own rest) → Good s.task earlier records
  sets_up word asked records judged later pass rest earlier above free h left on =
      tries_insert word (try_order (slot_of s a)) records h.0 h.1 earlier above free h.2 (λ own has. watched_at word asked h.0 h.1 judged later pass rest own has h.3 left on)

  module _ (above_one : Encodable a → 1 < word_of s.rules.layout a) where
    none_found : (marked : Bool) (asked : ℕ) (records : List Record) (pass : Pass) (rest earlier : List Record) → in_hand earlier ≡ None → NoneFound s a marked asked records pass rest
        → ((own : List Record) → in_hand own ≡ None → Good s.task own rest) → Good s.task earlier records
    none_found marked asked records pass rest earlier free (cases.counts_as_marked m is r) on = ends s.task earlier records rest r (on earlier free)
    none_found marked asked records pass rest earlier free (cases.skipped m n is r) on = ends s.task earlier records rest r (on earlier free)
    none_found marked asked records pass rest earlier free (cases.unencodable m w n is r) on = ends s.task earlier records rest r (on earlier free)
    none_found marked asked records pass rest earlier free (cases.watched judged later m w encodable up left) on =
        sets_up (word_of s.rules.layout a) (asked + 1) records judged later pass rest earlier (above_one encodable) free up left on

    goes_on : (marked : Bool) (asked : ℕ) (found : Option Watchpoint) (records : List Record) (pass : Pass) (rest earlier : List Record) → in_hand earlier ≡ None → HasRead earlier found
        → GoesOn s a marked asked found records pass rest → ((own : List Record) → in_hand own ≡ None → Good s.task own rest) → Good s.task earlier records
    goes_on marked asked None records pass rest earlier free read h on = none_found marked asked records pass rest earlier free h on
    goes_on marked asked (Some found) records pass rest earlier free read h on = found_watchpoint found records pass.outcome rest earlier free read h.3 on

    -- a check of an access leaves nothing in hand
    pub checks_once : (marked : Bool) (asked : ℕ) (records : List Record) (pass : Pass) (rest earlier : List Record) → in_hand earlier ≡ None → ChecksOnce s a marked asked records pass rest
        → ((own : List Record) → in_hand own ≡ None → Good s.task own rest) → Good s.task earlier records
    checks_once marked asked records pass rest earlier free h on =
        looks_up s a (look_order (slot_of s a)) records h.0 h.1 earlier free h.2 (λ own none read. goes_on marked asked h.0 h.1 pass rest own none read h.3 on)

module _ (s : Setting) (tickets : (a : Access) → IsInLimits a → ReadsBack a)
    (words : (layout : Layout) (a : Access) (word : ℕ) → WordOf layout a word → (1 < word) × (word < word_span layout)) where
  once : (a : Access) → IsOwn s a → (marked : Bool) (asked : ℕ) (records : List Record) (pass : Pass) (rest earlier : List Record) → in_hand earlier ≡ None → ChecksOnce s a marked asked records pass rest
      → ((own : List Record) → in_hand own ≡ None → Good s.task own rest) → Good s.task earlier records
  once a own =
      let back = tickets a own.in_limits in
      checks_once s a (back.above_zero, back.task ∙ own.task) (λ encodable. (words s.rules.layout a (word_of s.rules.layout a) (record { encodable = encodable; is = refl })).0)

  scope_next : (silenced : Bool) (Skips Checks : Type 0) (records earlier : List Record) → MatchBool silenced Skips Checks
      → (Skips → Good s.task earlier records) → (Checks → Good s.task earlier records) → Good s.task earlier records
  scope_next true Skips Checks records earlier h skips checks = skips h
  scope_next false Skips Checks records earlier h skips checks = checks h

  rechecks : (scopes : List Begun) → AreOwn s scopes → (asked : ℕ) (records : List Record) (passes : Passes) (rest earlier : List Record) → in_hand earlier ≡ None → Rechecks s scopes asked records passes rest
      → ((own : List Record) → in_hand own ≡ None → Good s.task own rest) → Good s.task earlier records
  rechecks [] all asked records passes rest earlier free h on = ends s.task earlier records rest h.1 (on earlier free)
  rechecks (scope ∷ scopes) all asked records passes rest earlier free h on =
      scope_next scope.silenced _ _ records earlier h
      (λ next. rechecks scopes all.1 asked records passes rest earlier free next on)
      (λ now. once scope.access all.0 scope.marked asked records now.0 now.1 earlier free now.3 (λ own none.
      rechecks scopes all.1 now.0.asked now.1 (record { outcomes = now.2; asked = passes.asked }) rest own none now.4 on))

  left_own : (settled : Bool) (scopes : List Begun) → AreOwn s scopes → AreOwn s (left_to_check settled scopes)
  left_own true scopes all = tt
  left_own false scopes all = all

  -- a whole check leaves nothing in hand
  pub check : (scopes : List Begun) (begun : Begun) (asked : ℕ) (records : List Record) (passes : Passes) (rest earlier : List Record) → in_hand earlier ≡ None
      → Check s scopes begun asked records passes rest
      → ((own : List Record) → in_hand own ≡ None → Good s.task own rest) → Good s.task earlier records
  check scopes begun asked records passes rest earlier free h on =
      step_word s.task Clock _ records earlier h.2 free (λ stamp later got.
      let own : List Record = made s.task Clock (answers.Word stamp) ∷ earlier in
      scope_next begun.silenced _ _ later own got
      (λ quiet. ends s.task own later rest quiet.1 (on own free))
      (λ now. once begun.access h.0 begun.marked asked later now.0 now.1 own free now.3 (λ after none.
      rechecks (left_to_check now.0.settled scopes) (left_own now.0.settled scopes h.1) now.0.asked now.1 (record { outcomes = now.2; asked = passes.asked }) rest after none now.4 on)))

  -- and so does a close
  pub close : (scope : Begun) (silenced : Bool) (asked : ℕ) (records : List Record) (passes : Passes) (rest earlier : List Record) → in_hand earlier ≡ None
      → Close s scope silenced asked records passes rest
      → ((own : List Record) → in_hand own ≡ None → Good s.task own rest) → Good s.task earlier records
  close scope silenced asked records passes rest earlier free h on =
      rechecks ((record scope { silenced = scope.silenced || silenced }) ∷ []) (h.0, tt) asked records passes h.1.0 earlier free h.1.1 (λ own none.
      step_word s.task Clock _ h.1.0 own h.1.2 none (λ stamp after over. ends s.task _ after rest over (on (made s.task Clock (answers.Word stamp) ∷ own) none)))

  -- another step leaves nothing in hand
  still_free : (step : Step) (answer : Answer) (hand : Option InHand) → IsBesides s.task step → hand ≡ None → hand_after step answer hand ≡ None
  still_free (Load index) answer hand ok free = free
  still_free (Insert index word) answer hand ok free = absurd ok
  still_free (TryConsume index word) answer hand ok free = absurd ok
  still_free (Consume index) answer hand ok free = absurd ok
  still_free (Remove index) answer hand ok free = absurd ok
  still_free (PairLoad index) answer hand ok free = free
  still_free (Name index ticket) answer hand ok free = absurd ok
  still_free (Tell index ticket) answer hand ok free = absurd ok
  still_free (Clear index) answer hand ok free = absurd ok
  still_free (CellLoad cell) answer hand ok free = free
  still_free (CellExchange cell expected new) answer hand ok free = free
  still_free (LockTry lock holder) answer hand ok free = free
  still_free (LockStore lock) answer hand ok free = free
  still_free Clock answer hand ok free = free

  is_allowed : (step : Step) (earlier : List Record) → IsBesides s.task step → in_hand earlier ≡ None
      → ((lock : ℕ) → step ≡ LockStore lock → IsTrue (holds lock earlier)) → Allows s.task earlier step
  is_allowed (Load index) earlier ok free held = tt
  is_allowed (Insert index word) earlier ok free held = absurd ok
  is_allowed (TryConsume index word) earlier ok free held = absurd ok
  is_allowed (Consume index) earlier ok free held = absurd ok
  is_allowed (Remove index) earlier ok free held = absurd ok
  is_allowed (PairLoad index) earlier ok free held = tt
  is_allowed (Name index ticket) earlier ok free held = absurd ok
  is_allowed (Tell index ticket) earlier ok free held = absurd ok
  is_allowed (Clear index) earlier ok free held = absurd ok
  is_allowed (CellLoad cell) earlier ok free held = tt
  is_allowed (CellExchange cell expected new) earlier ok free held = tt
  is_allowed (LockTry lock holder) earlier ok free held = ok
  is_allowed (LockStore lock) earlier ok free held = held lock refl
  is_allowed Clock earlier ok free held = free

  -- checks one after the other, with other steps between them
  all_good : {records : List Record} → MadeOfChecks s records → (earlier : List Record) → in_hand earlier ≡ None → Good s.task earlier records
  all_good shapes.nothing = λ earlier free. (λ held. tt, free)
  all_good (shapes.besides first later ok more) = λ earlier free.
      let good = all_good more (first ∷ earlier) (still_free first.step first.answer (in_hand earlier) ok free) in
      (λ held. (is_allowed first.step earlier ok free held.0, good.0 held.1), good.1)
  all_good (shapes.checks scopes begun asked records passes rest made_so more) = λ earlier free.
      check scopes begun asked records passes rest earlier free made_so (λ own none. all_good more own none)
  all_good (shapes.closes scope silenced asked records passes rest made_so more) = λ earlier free.
      close scope silenced asked records passes rest earlier free made_so (λ own none. all_good more own none)

-- the oldest of a list is the last one of the list turned round
turned_first : (first : Record) (later earlier : List Record) → reverse (first ∷ later) ++ earlier ≡ reverse later ++ first ∷ earlier
turned_first first later earlier =
    ap (λ (r : List Record). r ++ earlier) (reverse-append (first ∷ []) later) ∙ append_assoc (reverse later) (first ∷ []) earlier

-- allowed one by one from the oldest on is the discipline of the list with the latest first
turned : (task : ℕ) (records earlier : List Record) → Discipline task earlier → KeepsFrom task earlier records → Discipline task (reverse records ++ earlier)
turned task [] earlier before keeps = before
turned task (first ∷ later) earlier before keeps =
    subst (λ (r : List Record). Discipline task r) (sym (turned_first first later earlier)) (turned task later (first ∷ earlier) (before, keeps.0) keeps.1)

-- what is in hand is that of the list with the latest first
hand_turned : (records earlier : List Record) → hand_from earlier records ≡ in_hand (reverse records ++ earlier)
hand_turned [] earlier = refl
hand_turned (first ∷ later) earlier = hand_turned later (first ∷ earlier) ∙ ap in_hand (sym (turned_first first later earlier))

-- what keeps the discipline kept it before
kept_before : (task : ℕ) (latest earlier : List Record) → Discipline task (latest ++ earlier) → Discipline task earlier
kept_before task [] earlier h = h
kept_before task (last ∷ latest) earlier h = kept_before task latest earlier h.0

module _ (s : Setting) (tickets : (a : Access) → IsInLimits a → ReadsBack a)
    (words : (layout : Layout) (a : Access) (word : ℕ) → WordOf layout a word → (1 < word) × (word < word_span layout)) where
  disciplined : (records : List Record) → MadeOfChecks s records → FreesHeldLocks [] records → Discipline s.task (reverse records)
  disciplined records shape held =
      subst (λ (r : List Record). Discipline s.task r) (append-nil (reverse records)) (turned s.task records [] tt ((all_good s tickets words shape [] refl).0 held))

  -- records that may go on to whole checks keep the discipline
  pub disciplined_so_far : (records more : List Record) → MadeOfChecks s (records ++ more) → FreesHeldLocks [] (records ++ more) → Discipline s.task (reverse records)
  disciplined_so_far records more shape held =
      kept_before s.task (reverse more) (reverse records)
      (subst (λ (r : List Record). Discipline s.task r) (reverse-append records more) (disciplined (records ++ more) shape held))

  -- after whole checks nothing is in hand
  pub finished : (records : List Record) → MadeOfChecks s records → IsFinished (reverse records)
  finished records shape =
      ap in_hand (sym (append-nil (reverse records))) ∙ (sym (hand_turned records []) ∙ (all_good s tickets words shape [] refl).1)
