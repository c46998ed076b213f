-- What stands at each index fits after every legal list in the discipline, by induction on the
-- list.
use Rattle.std.proofs.Common.{◌≡◌, inl, ℕ, zero, suc, ◌+◌, Bool, true, false, cond, eqb, List, []}
use Rattle.std.proofs.Common.{◌∷◌, replicate, get_or, refl, sym, subst}
use Rattle.std.proofs.lemmas.Bool.{eq-eqb}
use Rattle.slot.specs.Pair.{unnamed}
use Rattle.slot_table.specs.Discipline.{AllKeepDiscipline, Allows, Discipline, LegalInDiscipline}
use Rattle.slot_table.specs.Records.{records_of, words_after}
use Rattle.slot_table.specs.StepLine.{step_line}
use Rattle.slot_table.specs.Words.{Words, words_at_first}
use Rattle.slot_table.specs.declared.records.Record.{Record}
use Rattle.slot_table.specs.declared.step.Answer.{Answer}
use Rattle.slot_table.proofs.Phases.{View, Fits}
use Rattle.slot_table.proofs.Steps.{fits_step}
use Rattle.slot_table.proofs.Views.{view, view_after, view_is}

-- what all tasks keep, they kept before the latest record, which was allowed
kept_if : (b : Bool) (task : ℕ) (latest : Record) (own : List Record)
    → Discipline task (cond b (latest ∷ own) own) → Discipline task own
kept_if true task latest own keeps = keeps.0
kept_if false task latest own keeps = keeps

pub kept_before : (latest : Record) (earlier : List Record)
    → AllKeepDiscipline (latest ∷ earlier) → AllKeepDiscipline earlier
kept_before latest earlier keeps =
    λ task. kept_if (eqb latest.task task) task latest (records_of task earlier) (keeps task)

pub allowed_at : (latest : Record) (earlier : List Record)
    → AllKeepDiscipline (latest ∷ earlier)
    → Allows latest.task (records_of latest.task earlier) latest.step
allowed_at latest earlier keeps =
    let own : List Record = records_of latest.task earlier in
    let P : Bool → Type 0 = λ b. Discipline latest.task (cond b (latest ∷ own) own) in
    let whole = subst P (eq-eqb latest.task latest.task refl) (keeps latest.task) in
    whole.1

-- the first words are empty
empty_at : {X : Type 0} (n index : ℕ) (x : X) → get_or (replicate n x) index x ≡ x
empty_at zero index x = refl
empty_at (suc n) zero x = refl
empty_at (suc n) (suc index) x = empty_at n index x

-- lists on a new board
module _ (page_slots locks : ℕ) (cells : List ℕ) where
  abbrev pub Keeps : List Record → Type 0
  Keeps records = LegalInDiscipline page_slots locks cells records

  abbrev pub words_of : List Record → Words
  words_of records = words_after (words_at_first page_slots locks cells) records

  abbrev pub view_of : List Record → ℕ → View
  view_of records index = view (words_of records) records index

  -- what keeps the rules kept them before the latest record
  pub keeps_before : (latest : Record) (earlier : List Record) → Keeps (latest ∷ earlier)
      → Keeps earlier
  keeps_before latest earlier rules =
      record { legal = rules.legal.0; keeps = kept_before latest earlier rules.keeps }

  -- what stands at an index fits
  pub fits_all : (records : List Record) → Keeps records → (index : ℕ)
      → Fits index (view_of records index)
  fits_all [] rules index = (
    λ task part both has heard. absurd (cc),
    inl (record {
      word_is = empty_at (page_slots + 2) index 0;
      pair_is = empty_at (page_slots + 2) index unnamed;
      nobody = λ task. refl;
      told = refl;
    }),
  )
  fits_all (latest ∷ earlier) rules index =
      let words : Words = words_of earlier in
      let before = fits_all earlier (keeps_before latest earlier rules) in
      let now : Words = (step_line words latest.step).after in
      let allowed = allowed_at latest earlier rules.keeps in
      let after =
      fits_step index words earlier latest.task latest.step rules.legal.1.names allowed
      before in
      let P : Answer → Type 0 =
      λ answer. Fits index (view_after now earlier index latest.task latest.step answer) in
      let Q : View → Type 0 = λ v. Fits index v in
      subst Q (sym (view_is now earlier index latest.task latest.step latest.answer))
      (subst P (sym rules.legal.1.answer) after)
