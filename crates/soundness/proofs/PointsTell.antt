-- What a text's records tell, point by point: each record's event, and the marks that come with it.
use Rattle.std.proofs.Common.{◌≡◌, ◌<◌, ◌≤◌, ◌⊎◌, ◌%◌, ◌^◌, ◌∙◌, ◌∷◌, ◌++◌, [], inl, inr, ℕ, zero, suc, Bool, true, false, List, IsTrue, MatchBool}
use Rattle.std.proofs.Common.{Some, ap, arith, length, refl, replicate, subst, sym}
use Rattle.std.proofs.lemmas.Bool.{le-leb}
use Rattle.std.proofs.lemmas.Bool.Decides.{leb_tells}
use Rattle.access_types.specs.Access as access
use Rattle.access_types.specs.Race.{bytes_of}
use Rattle.access_types.specs.declared.history.Happening.{Happening}
use Rattle.access_types.specs.declared.history.Happening.TheVariants as happenings
use Rattle.access_types.specs.declared.history.Mark.{Mark}
use Rattle.litmus_semantics.specs.Task as meaning
use Rattle.litmus_semantics.specs.Values.{cut}
use Rattle.access_run.proofs.memory_operation.WordLemmas.{cut_fits, range_is}
use Rattle.access_run.specs.memory_operation.Effects.{changed, moments_of, only_read, write_moments}
use Rattle.access_run.specs.memory_operation.Operations.{Changes, Exchanges, OnExchange}
use Rattle.access_run.specs.memory_operation.Values.{is_wanted, new_value, sum_of, with_value}
use Rattle.access_run.specs.declared.memory_operation.effect.Effect.{Effect}
use Rattle.access_run.specs.declared.memory_operation.operation.Change.{Change}
use Rattle.access_run.specs.declared.memory_operation.operation.Change.TheVariants as changes
use Rattle.setup_access.specs.Check.{Fallen}
use Rattle.setup_access.specs.Hits.{Hits}
use Rattle.setup_access.specs.OwnAccesses.{IsOwn}
use Rattle.setup_access.specs.Records.{MakesWord}
use Rattle.setup_access.specs.Setting as checks
use Rattle.setup_access.specs.Values.{source_of, value_in}
use Rattle.setup_access.specs.declared.outcome.Outcome.{Outcome}
use Rattle.setup_access.specs.declared.source.Source.{Source}
use Rattle.setup_access.proofs.DisciplineLemmas.{on_word}
use Rattle.slot_table.specs.declared.records.Record.{Record}
use Rattle.slot_table.specs.declared.step.Answer.{Answer}
use Rattle.slot_table.specs.declared.step.Answer.TheVariants as answers
use Rattle.slot_table.specs.declared.step.Step.{Step}
use Rattle.slot_table.specs.declared.step.Step.TheVariants.{CellExchange, CellLoad, Clear, Clock, Consume, Insert, Load, LockStore, LockTry, Name, PairLoad, Remove, Tell, TryConsume}
use Rattle.watch_word.specs.Word.{word_of}
use Rattle.program_order.specs.Standing.{Point, Setting, Standing, checks_of, counting, point_by}
use Rattle.soundness.specs.Events.{AreMarks, IsEvent, Reads, ReadsAtMost, Writes}
use Rattle.executions.proofs.execution.Intervals.{IsOpen}
use Rattle.soundness.specs.Finds.{IsFind, is_telling}
use Rattle.soundness.specs.Watches.{IsWatch, is_verdict}
use Rattle.setup_access.proofs.QuietSteps.{IsOfCheck}

-- what a part of a check is by its records: a watch, or a find at some index under some word
abbrev pub IsPart : Type 1
IsPart = checks.Setting → access.Access → Outcome → List Record → Type 0

abbrev pub IsSomeFind : IsPart
IsSomeFind s a outcome find = (index : ℕ) × (word : ℕ) × IsFind s a index word outcome find

-- What falls is of such a part at the front of these records, of an access in progress, which the task doesn't end or
-- go on with before the last of them.
pub record FallsOf (Is : IsPart) (s : Setting) (records : List Record) (did : List Happening) (points : List Point) (fallen : Fallen) : Type 0 where
  pub part : List Record
  pub split : records ≡ part ++ fallen.later
  pub is : Is (checks_of s) fallen.access fallen.outcome part
  pub own : IsOwn (checks_of s) fallen.access
  pub goes : IsOpen did fallen.access
  pub stays : (n : ℕ) (last : Point) → length fallen.later < n → point_by n last points ≡ last

-- so is a verdict of a watch, and a telling of a find
pub record FallsSo (s : Setting) (records : List Record) (did : List Happening) (points : List Point) (fallen : Fallen) : Type 0 where
  pub verdict : IsTrue (is_verdict fallen.outcome) → FallsOf IsWatch s records did points fallen
  pub telling : IsTrue (is_telling fallen.outcome) → FallsOf IsSomeFind s records did points fallen

-- a step that inserts or tries a word is made for an access in progress
abbrev pub MadeFor : Setting → List Happening → Step → Type 0
MadeFor s did (Insert index word) =
    (a : access.Access) × IsOwn (checks_of s) a × IsOpen did a × (word ≡ word_of s.rules.layout a)
MadeFor s did (TryConsume index word) =
    (a : access.Access) × IsOwn (checks_of s) a × IsOpen did a × Hits s.rules.layout a word
MadeFor s did step = Unit {0}

-- the step is neither
abbrev pub NoWatch : Step → Type 0
NoWatch (Insert index word) = ⊥
NoWatch (TryConsume index word) = ⊥
NoWatch step = Unit {0}

pub made_anyway : (s : Setting) (did : List Happening) (step : Step) → NoWatch step → MadeFor s did step
made_anyway s did (Insert index word) none = absurd none
made_anyway s did (TryConsume index word) none = absurd none
made_anyway s did step none = tt

-- From records that are to come and what was done before them, what the points of a way tell: some marks now, or the
-- first record, with its event or without one. These outcomes fall at the records.
pub data PointsTell (s : Setting) : List Record → List Happening → List Point → List Fallen → Type 0 where
  over : (did : List Happening) → PointsTell s [] did [] []
  marks : (records : List Record) (did more : List Happening) (point : Point) (points : List Point) (outs : List Fallen) → point.to_come ≡ length records
      → point.progress.did ≡ did ++ more → AreMarks more → PointsTell s records point.progress.did points outs → PointsTell s records did (point ∷ points) outs
  silent : (first : Record) (later : List Record) (did : List Happening) (points : List Point) (outs : List Fallen)
      → IsEvent s did first.step first.answer [] → MadeFor s did first.step
      → PointsTell s later did points outs → PointsTell s (first ∷ later) did points outs
  event : (first : Record) (later : List Record) (did more : List Happening) (point : Point) (points : List Point) (outs : List Fallen)
      → point.to_come ≡ length later
      → point.progress.did ≡ did ++ more → IsEvent s did first.step first.answer more → NoWatch first.step → PointsTell s later point.progress.did points outs
      → PointsTell s (first ∷ later) did (point ∷ points) outs
  fell : (records : List Record) (did : List Happening) (points : List Point) (outs : List Fallen) (fallen : Fallen)
      → FallsSo s records did points fallen → PointsTell s records did points outs → PointsTell s records did points (fallen ∷ outs)

-- the next point is taken where it stands so many records from the end, or more
pub goes_on : (n : ℕ) (last point : Point) (points : List Point) → n ≤ point.to_come → point_by n last (point ∷ points) ≡ point_by n point points
goes_on n last point points below = rw (le-leb n point.to_come below) refl

pub stops : (n : ℕ) (last point : Point) (points : List Point) → point.to_come < n → point_by n last (point ∷ points) ≡ last
stops n last point points above = elim (leb_tells n point.to_come) [
  | inl more ↦ let it : n ≤ point.to_come = more.1 in absurd (omega (arith, it, above))
  | inr there ↦ rw there.0 refl
]

-- no point stands before the records that it tells
pub stays : (s : Setting) (n : ℕ) (last : Point) (records : List Record) (did : List Happening) (points : List Point) (outs : List Fallen)
    → PointsTell s records did points outs → length records < n → point_by n last points ≡ last
stays s n last records did points outs (over d) above = refl
stays s n last records did points outs (marks r d more point others o here says are goes) above = stops n last point others (omega (arith, here, above))
stays s n last records did points outs (silent first later d others o event_so made goes) above = stays s n last later d others o goes (omega (arith, above))
stays s n last records did points outs (event first later d more point others o here says event_so none goes) above =
    stops n last point others (omega (arith, here, above))
stays s n last records did points outs (fell r d others o fallen so goes) above = stays s n last r d others o goes above

-- a step of a check has no event
check_silent : (s : Setting) (did : List Happening) (step : Step) (answer : Answer) → IsOfCheck step → IsEvent s did step answer []
check_silent s did (CellLoad cell) answer ok = inl refl
check_silent s did (Load index) answer ok = refl
check_silent s did (Insert index word) answer ok = refl
check_silent s did (TryConsume index word) answer ok = refl
check_silent s did (Consume index) answer ok = refl
check_silent s did (Remove index) answer ok = refl
check_silent s did (PairLoad index) answer ok = refl
check_silent s did (Name index ticket) answer ok = refl
check_silent s did (Tell index ticket) answer ok = refl
check_silent s did (Clear index) answer ok = refl
check_silent s did (CellExchange cell expected new) answer ok = absurd ok
check_silent s did (LockTry lock holder) answer ok = absurd ok
check_silent s did (LockStore lock) answer ok = absurd ok
check_silent s did Clock answer ok = absurd ok

pub silent_check : (s : Setting) (did : List Happening) (points : List Point) (outs : List Fallen) (first : Record) (later : List Record)
    → IsOfCheck first.step → MadeFor s did first.step → PointsTell s later did points outs → PointsTell s (first ∷ later) did points outs
silent_check s did points outs first later ok made tells = silent first later did points outs (check_silent s did first.step first.answer ok) made tells

-- the step of the clock at which an access begins or ends
begins_at : (s : Setting) (did : List Happening) (first : Record) (a : access.Access) → first.step ≡ Clock
    → IsEvent s did first.step first.answer (happenings.Begin a ∷ [])
begins_at s did first a is = subst (λ (st : Step). IsEvent s did st first.answer (happenings.Begin a ∷ [])) (sym is) (a, inl refl)

ends_at : (s : Setting) (did : List Happening) (first : Record) (a : access.Access) → first.step ≡ Clock
    → IsEvent s did first.step first.answer (happenings.End a ∷ [])
ends_at s did first a is = subst (λ (st : Step). IsEvent s did st first.answer (happenings.End a ∷ [])) (sym is) (a, inr refl)

pub marks_of_one : (count : ℕ) (m : Mark) → AreMarks (replicate count (happenings.Mark m))
marks_of_one zero m = tt
marks_of_one (suc count) m = (tt, marks_of_one count m)

pick : (b : Bool) (Yes No Goal : Type 0) → MatchBool b Yes No → (Yes → Goal) → (No → Goal) → Goal
pick true Yes No Goal given at_true at_false = at_true given
pick false Yes No Goal given at_true at_false = at_false given

on_exchange : (answer : Answer) (Accepted : Type 0) (Refused : ℕ → Type 0) (Goal : Type 0) → OnExchange answer Accepted Refused
    → (answer ≡ answers.Flag true → Accepted → Goal) → ((word : ℕ) → answer ≡ answers.Word word → Refused word → Goal) → Goal
on_exchange (answers.Word word) Accepted Refused Goal h at_yes at_no = at_no word refl h
on_exchange (answers.Flag true) Accepted Refused Goal h at_yes at_no = at_yes refl h
on_exchange (answers.Flag false) Accepted Refused Goal h at_yes at_no = absurd h
on_exchange (answers.Halves setter finder) Accepted Refused Goal h at_yes at_no = absurd h
on_exchange answers.Done Accepted Refused Goal h at_yes at_no = absurd h

-- what an operation on the bytes of an access in their cell tells of its effect
module _ (s : Setting) (a : access.Access) (source : Source) (tells_of : Effect → List Happening) (did : List Happening)
    (point : Point) (points : List Point) (outs : List Fallen) where
  -- a record that may be the last of a change, and that saw this word: nothing comes of it, or what was read
  record MayEnd (made : Record) (seen : ℕ) : Type 0 where
    silently : IsEvent s did made.step made.answer []
    reading : IsEvent s did made.step made.answer (tells_of (only_read (value_in a source seen)))
    no_watch : NoWatch made.step

  -- what was read, and what was changed
  abbrev IsReading : Type 0
  IsReading = (answer : Answer) (word : ℕ) → answer ≡ answers.Word word
      → ReadsAtMost s source.cell answer (tells_of (only_read (value_in a source word)))

  abbrev IsWriting : Change → Type 0
  IsWriting change = (seen : ℕ)
      → Writes s source.cell seen (with_value a source seen (new_value a.size change (value_in a source seen)))
      (tells_of (changed a.size change (value_in a source seen)))

  refused : (first : Record) (expected new word : ℕ) → IsReading → first.step ≡ CellExchange source.cell expected new
      → first.answer ≡ answers.Word word → MayEnd first word
  refused first expected new word reads is answered =
      let event_of : (more : List Happening) → ReadsAtMost s source.cell (answers.Word word) more → IsEvent s did first.step first.answer more =
      λ more read. subst (λ (st : Step). IsEvent s did st first.answer more) (sym is)
      (subst (λ (an : Answer). IsEvent s did (CellExchange source.cell expected new) an more) (sym answered) read) in
      record {
        silently = event_of [] (inl refl);
        reading = event_of (tells_of (only_read (value_in a source word))) (reads (answers.Word word) word refl);
        no_watch = subst NoWatch (sym is) tt;
      }

  loaded : (first : Record) (word : ℕ) → IsReading → first.step ≡ CellLoad source.cell → first.answer ≡ answers.Word word → MayEnd first word
  loaded first word reads is answered = record {
    silently = subst (λ (st : Step). IsEvent s did st first.answer []) (sym is) (inl refl);
    reading = subst (λ (st : Step). IsEvent s did st first.answer (tells_of (only_read (value_in a source word)))) (sym is)
        (reads first.answer word answered);
    no_watch = subst NoWatch (sym is) tt;
  }

  module _ (task : ℕ) (change : Change) (effect : Effect) (rest : List Record) (reads : IsReading) (writes : IsWriting change)
      (here : point.to_come ≡ length rest) (tells_so : point.progress.did ≡ did ++ tells_of effect) (goes : PointsTell s rest point.progress.did points outs) where
    stopped : (made : Record) (records : List Record) (seen : ℕ) → MayEnd made seen → (effect ≡ only_read (value_in a source seen)) × (rest ≡ records)
        → PointsTell s (made ∷ records) did (point ∷ points) outs
    stopped made records seen may ends =
        let says : point.progress.did ≡ did ++ tells_of (only_read (value_in a source seen)) = tells_so ∙ ap (λ (e : Effect). did ++ tells_of e) ends.0 in
        event made records did (tells_of (only_read (value_in a source seen))) point points outs (here ∙ ap (λ (r : List Record). length r) ends.1) says
        may.reading may.no_watch (subst (λ (r : List Record). PointsTell s r point.progress.did points outs) ends.1 goes)

    exchanges : (made : Record) (seen : ℕ) (records : List Record) → MayEnd made seen → Exchanges task a source change seen records effect rest
        → PointsTell s (made ∷ records) did (point ∷ points) outs
    exchanges made seen [] may h =
        pick (is_wanted a.size change (value_in a source seen)) _ _ _ h (λ none. absurd none) (λ ends. stopped made [] seen may ends)
    exchanges made seen (first ∷ later) may h =
        pick (is_wanted a.size change (value_in a source seen)) _ _ _ h
        (λ now. silent made (first ∷ later) did (point ∷ points) outs may.silently (made_anyway s did made.step may.no_watch)
        (on_exchange first.answer _ _ _ now.1
        (λ accepted done.
        let new : ℕ = with_value a source seen (new_value a.size change (value_in a source seen)) in
        let more : List Happening = tells_of (changed a.size change (value_in a source seen)) in
        let says : point.progress.did ≡ did ++ more = tells_so ∙ ap (λ (e : Effect). did ++ tells_of e) done.0 in
        let written : IsEvent s did first.step first.answer more = subst (λ (st : Step). IsEvent s did st first.answer more) (sym now.0.1)
        (subst (λ (an : Answer). IsEvent s did (CellExchange source.cell seen new) an more) (sym accepted) (writes seen)) in
        event first later did more point points outs (here ∙ ap (λ (r : List Record). length r) done.1) says written (subst NoWatch (sym now.0.1) tt)
        (subst (λ (r : List Record). PointsTell s r point.progress.did points outs) done.1 goes))
        (λ word refused_so again.
        exchanges first word later
        (refused first seen (with_value a source seen (new_value a.size change (value_in a source seen))) word reads now.0.1 refused_so) again)))
        (λ ends. stopped made (first ∷ later) seen may ends)

    pub makes_changes : (records : List Record) → Changes task a source change records effect rest → PointsTell s records did (point ∷ points) outs
    makes_changes [] h = absurd h
    makes_changes (first ∷ later) h =
        let got = on_word first.answer _ h.2 in exchanges first got.0 later (loaded first got.0 reads h.1 got.1) got.2

-- what a change gives so many bytes is cut to what they can hold
cut_below : (size value : ℕ) → cut size value < 256 ^ size
cut_below size value = subst (λ n. value % 256 ^ size < n) (sym (range_is size)) (cut_fits size value)

new_below : (size : ℕ) (change : Change) (old : ℕ) → new_value size change old < 256 ^ size
new_below size (changes.Write new) old = cut_below size new
new_below size (changes.Exchange new) old = cut_below size new
new_below size (changes.AtomicAdd amount) old = cut_below size (sum_of size old amount)
new_below size (changes.CompareExchange expected replacement) old = cut_below size replacement

-- the happenings of an access whose bytes lie in a cell
module _ (s : Setting) (a : access.Access) (source : Source) (lies : source_of (checks_of s) a ≡ Some source) where
  pub read_of : (answer : Answer) (word : ℕ) → answer ≡ answers.Word word
      → Reads s source.cell answer (happenings.Read (bytes_of a) (value_in a source word) ∷ [])
  read_of answer word answered =
      record { word = word; answered = answered; access = a; source = source; lies = lies; there = refl; is = refl }

  pub read_once : (answer : Answer) (word : ℕ) → answer ≡ answers.Word word
      → ReadsAtMost s source.cell answer (moments_of a (only_read (value_in a source word)))
  read_once answer word answered = inr (read_of answer word answered)

  writes_so : (change : Change) (seen : ℕ) (told : List Happening)
      → (told ≡ happenings.Write (bytes_of a) (new_value a.size change (value_in a source seen)) ∷ [])
      ⊎ (told ≡ happenings.Read (bytes_of a) (value_in a source seen)
      ∷ happenings.Write (bytes_of a) (new_value a.size change (value_in a source seen)) ∷ [])
      → Writes s source.cell seen (with_value a source seen (new_value a.size change (value_in a source seen))) told
  writes_so change seen told is = record {
    access = a;
    source = source;
    lies = lies;
    there = refl;
    value = new_value a.size change (value_in a source seen);
    fits = new_below a.size change (value_in a source seen);
    lays = refl;
    is = is;
  }

  pub writes_once : (change : Change) (seen : ℕ)
      → Writes s source.cell seen (with_value a source seen (new_value a.size change (value_in a source seen)))
      (moments_of a (changed a.size change (value_in a source seen)))
  writes_once (changes.Write new) seen = writes_so (changes.Write new) seen _ (inl refl)
  writes_once (changes.Exchange new) seen = writes_so (changes.Exchange new) seen _ (inr refl)
  writes_once (changes.AtomicAdd amount) seen = writes_so (changes.AtomicAdd amount) seen _ (inr refl)
  writes_once (changes.CompareExchange expected replacement) seen = writes_so (changes.CompareExchange expected replacement) seen _ (inr refl)

  pub only_writes : (value seen : ℕ)
      → Writes s source.cell seen (with_value a source seen (new_value a.size (changes.Write value) (value_in a source seen)))
      (write_moments a (changed a.size (changes.Write value) (value_in a source seen)).written)
  only_writes value seen = writes_so (changes.Write value) seen _ (inl refl)

pub counting_way : (ends_nothing : Bool) (before : Standing) → (counting ends_nothing before).way ≡ before.way
counting_way true before = refl
counting_way false before = refl

abbrev pub comes_at : Standing → List Record → meaning.Progress → Point
comes_at before later progress = record { to_come = length later; progress = progress; unbalanced = before.unbalanced }

module _ (s : Setting) where
  -- an access begins at its first record
  pub begun_part : (a : access.Access) (before : Standing) (first : Record) (later : List Record) → first.step ≡ Clock → (more : List Point) (outs : List Fallen)
      → PointsTell s later (before.progress.did ++ happenings.Begin a ∷ []) more outs
      → PointsTell s (first ∷ later) before.progress.did (comes_at before later (meaning.doing before.progress (happenings.Begin a ∷ [])) ∷ more) outs
  begun_part a before first later is more outs goes =
      event first later before.progress.did (happenings.Begin a ∷ []) _ more outs refl refl (begins_at s before.progress.did first a is)
      (subst NoWatch (sym is) tt) goes

  -- and ends at its last
  pub ended_part : (a : access.Access) (before : Standing) (did : List Happening) (records rest : List Record)
      → MakesWord s.text.task Clock (λ stamp later. rest ≡ later) records
      → before.progress.did ≡ did → (more : List Point) (outs : List Fallen) → PointsTell s rest (did ++ happenings.End a ∷ []) more outs
      → PointsTell s records did (comes_at before rest (meaning.doing before.progress (happenings.End a ∷ [])) ∷ more) outs
  ended_part a before did [] rest h same more outs goes = absurd h
  ended_part a before did (first ∷ later) rest h same more outs goes =
      let got = on_word first.answer _ h.2 in
      let says : before.progress.did ++ happenings.End a ∷ [] ≡ did ++ happenings.End a ∷ [] = ap (λ (d : List Happening). d ++ happenings.End a ∷ []) same in
      event first later did (happenings.End a ∷ []) _ more outs (ap (λ (r : List Record). length r) got.2) says (ends_at s did first a h.1) (subst NoWatch (sym h.1) tt)
      (subst (λ (d : List Happening). PointsTell s later d more outs) (sym says) (subst (λ (r : List Record). PointsTell s r (did ++ happenings.End a ∷ []) more outs) got.2 goes))
