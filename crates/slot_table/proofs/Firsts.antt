-- Each taking is of an arming that nobody took before, and each tell of one that was not told of.
use Rattle.std.proofs.Common.{◌≡◌, ◌<◌, inl, inr, ℕ, true, eqb, List, [], ◌∷◌, None, Some, refl}
use Rattle.std.proofs.Common.{sym, ◌∙◌, arith}
use Rattle.std.proofs.lemmas.Bool.{eqb-true}
use Rattle.slot_table.specs.Armings.{MeetOnce, MeetsAnew}
use Rattle.slot_table.specs.Discipline.{Allows, in_hand}
use Rattle.slot_table.specs.declared.discipline.Part.TheVariants.{Taken}
use Rattle.slot_table.specs.Records.{records_of}
use Rattle.slot_table.specs.Roles.{watch_word_at}
use Rattle.slot_table.specs.StepLine.{step_line}
use Rattle.slot_table.specs.Words.{Words}
use Rattle.slot_table.specs.declared.records.Record.{Record}
use Rattle.slot_table.specs.declared.step.Answer.{Answer}
use Rattle.slot_table.specs.declared.step.Answer.TheVariants as answers
use Rattle.slot_table.specs.declared.step.Step.{Step}
use Rattle.slot_table.specs.declared.step.Step.TheVariants.{TryConsume, Tell}
use Rattle.slot_table.proofs.Lists.{Keeps, allowed_at, fits_all, keeps_before, words_of}
use Rattle.slot_table.proofs.Moves.{is_finder}
use Rattle.slot_table.proofs.Phases as phases
use Rattle.slot_table.proofs.Phases.{View, Fits}
use Rattle.slot_table.proofs.Steps.{here_part}
use Rattle.slot_table.proofs.Views.{view}

-- a word that still stands was taken by nobody
untaken : (index : ℕ) (v : View) (word : ℕ)
    → Fits index v → v.word ≡ word → 1 < word
    → ((setter : ℕ) × (v.last.arming ≡ Some (record { setter = setter; word = word })))
    × (v.last.finder ≡ None)
    × (v.last.telling ≡ None)
untaken index v word (hears, inl idle) is above = absurd (omega (arith, idle.word_is))
untaken index v word (hears, inr (phases.Fresh, h)) is above =
    let same : h.word ≡ word = sym h.word_is ∙ is in
    ((h.setter, rw (← same) h.arming), h.finder, h.telling)
untaken index v word (hears, inr (phases.Watching ticket, h)) is above =
    let same : h.word ≡ word = sym h.word_is ∙ is in
    ((h.setter, rw (← same) h.arming), h.finder, h.telling)
untaken index v word (hears, inr (phase, h)) is above = absurd (omega (arith, h.word_is))

-- a finder that has not told is the first that tells
no_telling : (phase : phases.Phase) (word task taken : ℕ)
    → phases.finder_part phase word task ≡ Some (Taken taken) → phases.telling_in phase ≡ None
no_telling (phases.NamedTold finder ticket telling) word task taken takes = absurd (cc)
no_telling (phases.HitTold finder ticket telling) word task taken takes = absurd (cc)
no_telling (phases.HitCleared finder ticket telling) word task taken takes = absurd (cc)
no_telling phase word task taken takes = refl

pub untold : (index : ℕ) (v : View) (task word : ℕ)
    → Fits index v → v.part task ≡ Some (Taken word) → v.last.telling ≡ None
untold index v task word (hears, inl idle) has = let none = idle.nobody task in absurd (cc)
untold index v task word (hears, inr (phase, h)) has =
    let apart = is_finder index phase v h task word has in
    h.telling ∙ no_telling phase h.word task word (sym (h.others task apart) ∙ has)

-- each meeting is new
meets_anew : (words : Words) (earlier : List Record) (task : ℕ) (step : Step) (answer : Answer)
    → ((index : ℕ) → Fits index (view words earlier index))
    → answer ≡ (step_line words step).answer → Allows task (records_of task earlier) step
    → MeetsAnew step answer earlier
meets_anew words earlier task (TryConsume index word) (answers.Flag true) fits is allows =
    let took : eqb (watch_word_at index words) word ≡ true = cc in
    let stood = eqb-true (watch_word_at index words) word took in
    untaken index (view words earlier index) word (fits index) stood allows.0
meets_anew words earlier task (Tell index ticket) answer fits is allows =
    let own : List Record = records_of task earlier in
    let part = here_part index (in_hand own) (Taken allows.1.0) allows.1.1 in
    untold index (view words earlier index) task allows.1.0 (fits index) part
meets_anew words earlier task step answer fits is allows = tt

pub meet_once : (page_slots locks : ℕ) (cells : List ℕ) (records : List Record)
    → Keeps page_slots locks cells records → MeetOnce records
meet_once page_slots locks cells [] rules = tt
meet_once page_slots locks cells (latest ∷ earlier) rules =
    let before = keeps_before page_slots locks cells latest earlier rules in (
      meet_once page_slots locks cells earlier before,
      meets_anew (words_of page_slots locks cells earlier) earlier
          latest.task latest.step latest.answer
          (fits_all page_slots locks cells earlier before)
          rules.legal.1.answer (allowed_at latest earlier rules.keeps),
    )
