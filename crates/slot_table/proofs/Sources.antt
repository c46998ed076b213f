-- The records behind the last arming at an index stand in the list: its insertion, its taking, its
-- name and its tell.
use Rattle.std.proofs.Common.{◌≡◌, inl, inr, ℕ, true, length, List, [], ◌∷◌, None, Some, refl, sym}
use Rattle.std.proofs.Common.{ap, ◌∙◌}
use Rattle.std.proofs.lemmas.Bool.Decides.{eqb_tells}
use Rattle.slot_table.specs.Armings.{Arming, MeetOnce, MeetsAnew, armed_after, finder_at}
use Rattle.slot_table.specs.Armings.{last_arming, last_arming_number, named_after, named_at}
use Rattle.slot_table.specs.Armings.{number_after, taken_after, told_after, told_at}
use Rattle.slot_table.specs.Discipline.{Allows, in_hand}
use Rattle.slot_table.specs.Hearings.{IsArming, IsName, IsTaking, IsTell, SomeRecord}
use Rattle.slot_table.specs.Records.{records_of}
use Rattle.slot_table.specs.declared.discipline.Part.TheVariants.{Inserted, Taken}
use Rattle.slot_table.specs.declared.records.Record.{Record}
use Rattle.slot_table.specs.declared.step.Answer.{Answer}
use Rattle.slot_table.specs.declared.step.Answer.TheVariants as answers
use Rattle.slot_table.specs.declared.step.Step.{Step}
use Rattle.slot_table.specs.declared.step.Step.TheVariants.{Insert, TryConsume, Name, Tell}
use Rattle.slot_table.proofs.Lists.{Keeps, allowed_at, fits_all, keeps_before, view_of}
use Rattle.slot_table.proofs.Moves.{is_finder, is_setter, some_same, taker_is}
use Rattle.slot_table.proofs.Phases as phases
use Rattle.slot_table.proofs.Phases.{View, Fits, Open}
use Rattle.slot_table.proofs.Steps.{here_part}

-- a record made by a task
abbrev made_by : ℕ → Step → Answer → Record
made_by task step answer = record { task = task; step = step; answer = answer }

-- the insertion
module _ (index number setter word : ℕ) where
  abbrev Armed : List Record → Type 0
  Armed records = SomeRecord (IsArming index number setter word) records

  abbrev arming : Arming
  arming = record { setter = setter; word = word }

  armed_step : (task : ℕ) (step : Step) (answer : Answer) (earlier : List Record)
      → armed_after index task step answer (last_arming index earlier) ≡ Some arming
      → number_after index step answer (length earlier) (last_arming_number index earlier)
      ≡ Some number
      → (last_arming index earlier ≡ Some arming → last_arming_number index earlier ≡ Some number
      → Armed earlier)
      → Armed (made_by task step answer ∷ earlier)
  armed_step task (Insert at its) (answers.Flag true) earlier armed numbered rest =
      elim (eqb_tells at index) [
        | inl here ↦
            let one : Some (record { setter = task; word = its }) ≡ Some arming =
            rw here.0 at armed in
            let other : Some (length earlier) ≡ Some number = rw here.0 at numbered in
            let its_word : its ≡ word = ap (λ (it : Arming). it.word) (some_same one) in
            inl (record {
              task = ap (λ (it : Arming). it.setter) (some_same one);
              step = rw (here.1, its_word) refl;
              answer = refl;
              counts = some_same other;
            })
        | inr apart ↦
            let one : last_arming index earlier ≡ Some arming = rw apart.0 at armed in
            let other : last_arming_number index earlier ≡ Some number = rw apart.0 at numbered in
            inr (rest one other)
      ]
  armed_step task step answer earlier armed numbered rest = inr (rest armed numbered)

  pub arming_stands : (records : List Record)
      → last_arming index records ≡ Some arming → last_arming_number index records ≡ Some number
      → Armed records
  arming_stands [] armed numbered = absurd (cc)
  arming_stands (latest ∷ earlier) armed numbered =
      armed_step latest.task latest.step latest.answer earlier armed numbered
      (arming_stands earlier)

-- the taking, of the word that was inserted
module _ (index number setter finder word : ℕ) where
  abbrev TakenBy : List Record → Type 0
  TakenBy records = SomeRecord (IsTaking index number finder word) records

  abbrev its_arming : Arming
  its_arming = record { setter = setter; word = word }

  taken_step : (task : ℕ) (step : Step) (answer : Answer) (earlier : List Record)
      → MeetsAnew step answer earlier
      → taken_after index task step answer (finder_at index earlier) ≡ Some finder
      → armed_after index task step answer (last_arming index earlier) ≡ Some its_arming
      → number_after index step answer (length earlier) (last_arming_number index earlier)
      ≡ Some number
      → (finder_at index earlier ≡ Some finder → last_arming index earlier ≡ Some its_arming
      → last_arming_number index earlier ≡ Some number → TakenBy earlier)
      → TakenBy (made_by task step answer ∷ earlier)
  taken_step task (Insert at its) (answers.Flag true) earlier anew found armed numbered rest =
      elim (eqb_tells at index) [
        | inl here ↦ let none : None ≡ Some finder = rw here.0 at found in absurd (cc)
        | inr apart ↦
            let one : finder_at index earlier ≡ Some finder = rw apart.0 at found in
            let two : last_arming index earlier ≡ Some its_arming = rw apart.0 at armed in
            let three : last_arming_number index earlier ≡ Some number = rw apart.0 at numbered in
            inr (rest one two three)
      ]
  taken_step task (TryConsume at its) (answers.Flag true) earlier anew found armed numbered rest =
      elim (eqb_tells at index) [
        | inl here ↦
            let who : Some task ≡ Some finder = rw here.0 at found in
            let stood : last_arming index earlier
            ≡ Some (record { setter = anew.0.0; word = its }) =
            rw here.1 at anew.0.1 in
            let same : its ≡ word = ap (λ (it : Arming). it.word) (some_same (sym stood ∙ armed)) in
            inl (record {
              task = some_same who;
              step = rw (here.1, same) refl;
              answer = refl;
              last = numbered;
            })
        | inr apart ↦
            let one : finder_at index earlier ≡ Some finder = rw apart.0 at found in
            inr (rest one armed numbered)
      ]
  taken_step task step answer earlier anew found armed numbered rest =
      inr (rest found armed numbered)

  pub taking_stands : (records : List Record)
      → MeetOnce records → finder_at index records ≡ Some finder
      → last_arming index records ≡ Some its_arming → last_arming_number index records ≡ Some number
      → TakenBy records
  taking_stands [] once found armed numbered = absurd (cc)
  taking_stands (latest ∷ earlier) once found armed numbered =
      taken_step latest.task latest.step latest.answer earlier once.1 found armed numbered
      (taking_stands earlier once.0)

-- who names at an index is the setter of the last arming there
namer : (index : ℕ) (v : View) (task word : ℕ) (arming : Arming)
    → Fits index v → v.part task ≡ Some (Inserted word) → v.last.arming ≡ Some arming
    → task ≡ arming.setter
namer index v task word arming (hears, inl idle) has armed =
    let none = idle.nobody task in absurd (cc)
namer index v task word arming (hears, inr (phase, h)) has armed =
    let it = is_setter index phase v h task (Inserted word) has (λ other e. cc) in
    it.0 ∙ ap (λ (its : Arming). its.setter) (some_same (sym h.arming ∙ armed))

-- who tells there is its finder
teller_in : (phase : phases.Phase) (word task taken : ℕ)
    → phases.finder_part phase word task ≡ Some (Taken taken) → phases.finder_in phase ≡ Some task
teller_in (phases.FreshTaken finder) word task taken takes =
    ap (λ (n : ℕ). Some n) (taker_is finder word task taken takes).0
teller_in (phases.NamedTaken finder ticket) word task taken takes =
    ap (λ (n : ℕ). Some n) (taker_is finder word task taken takes).0
teller_in (phases.HitTaken finder ticket) word task taken takes =
    ap (λ (n : ℕ). Some n) (taker_is finder word task taken takes).0
teller_in phase word task taken takes = absurd (cc)

teller : (index : ℕ) (v : View) (task word : ℕ)
    → Fits index v → v.part task ≡ Some (Taken word) → v.last.finder ≡ Some task
teller index v task word (hears, inl idle) has = let none = idle.nobody task in absurd (cc)
teller index v task word (hears, inr (phase, h)) has =
    let apart = is_finder index phase v h task word has in
    h.finder ∙ teller_in phase h.word task word (sym (h.others task apart) ∙ has)

-- the name and the tell
module _ (page_slots locks : ℕ) (cells : List ℕ) (index number : ℕ) where
  abbrev NamedBy : ℕ → ℕ → List Record → Type 0
  NamedBy setter ticket records = SomeRecord (IsName index number setter ticket) records

  name_step : (arming : Arming) (ticket task : ℕ) (step : Step) (answer : Answer)
      (earlier : List Record)
      → Keeps page_slots locks cells earlier → Allows task (records_of task earlier) step
      → named_after index step answer (named_at index earlier) ≡ Some ticket
      → armed_after index task step answer (last_arming index earlier) ≡ Some arming
      → number_after index step answer (length earlier) (last_arming_number index earlier)
      ≡ Some number
      → (named_at index earlier ≡ Some ticket → last_arming index earlier ≡ Some arming
      → last_arming_number index earlier ≡ Some number → NamedBy arming.setter ticket earlier)
      → NamedBy arming.setter ticket (made_by task step answer ∷ earlier)
  name_step arming ticket task (Insert at word) (answers.Flag true) earlier rules allows named armed
      numbered rest =
      elim (eqb_tells at index) [
        | inl here ↦ let none : None ≡ Some ticket = rw here.0 at named in absurd (cc)
        | inr apart ↦
            let one : named_at index earlier ≡ Some ticket = rw apart.0 at named in
            let two : last_arming index earlier ≡ Some arming = rw apart.0 at armed in
            let three : last_arming_number index earlier ≡ Some number = rw apart.0 at numbered in
            inr (rest one two three)
      ]
  name_step arming ticket task (Name at its) answer earlier rules allows named armed numbered rest =
      elim (eqb_tells at index) [
        | inl here ↦
            let same : Some its ≡ Some ticket = rw here.0 at named in
            let part =
            here_part at (in_hand (records_of task earlier)) (Inserted allows.1) allows.2 in
            let fits = fits_all page_slots locks cells earlier rules index in
            let v : View = view_of page_slots locks cells earlier index in
            let who = namer index v task allows.1 arming fits (rw here.1 at part) armed in
            inl (record {
              task = who;
              step = rw (here.1, some_same same) refl;
              last = numbered;
            })
        | inr apart ↦
            let one : named_at index earlier ≡ Some ticket = rw apart.0 at named in
            inr (rest one armed numbered)
      ]
  name_step arming ticket task step answer earlier rules allows named armed numbered rest =
      inr (rest named armed numbered)

  pub name_stands : (arming : Arming) (ticket : ℕ) (records : List Record)
      → Keeps page_slots locks cells records
      → named_at index records ≡ Some ticket → last_arming index records ≡ Some arming
      → last_arming_number index records ≡ Some number
      → NamedBy arming.setter ticket records
  name_stands arming ticket [] rules named armed numbered = absurd (cc)
  name_stands arming ticket (latest ∷ earlier) rules named armed numbered =
      let before = keeps_before page_slots locks cells latest earlier rules in
      name_step arming ticket latest.task latest.step latest.answer earlier before
      (allowed_at latest earlier rules.keeps) named armed numbered
      (name_stands arming ticket earlier before)

  abbrev ToldBy : ℕ → ℕ → List Record → Type 0
  ToldBy finder ticket records = SomeRecord (IsTell index number finder ticket) records

  tell_step : (finder ticket task : ℕ) (step : Step) (answer : Answer) (earlier : List Record)
      → Keeps page_slots locks cells earlier → Allows task (records_of task earlier) step
      → MeetsAnew step answer earlier
      → told_after index step answer (told_at index earlier) ≡ Some ticket
      → taken_after index task step answer (finder_at index earlier) ≡ Some finder
      → number_after index step answer (length earlier) (last_arming_number index earlier)
      ≡ Some number
      → (told_at index earlier ≡ Some ticket → finder_at index earlier ≡ Some finder
      → last_arming_number index earlier ≡ Some number → ToldBy finder ticket earlier)
      → ToldBy finder ticket (made_by task step answer ∷ earlier)
  tell_step finder ticket task (Insert at word) (answers.Flag true) earlier rules allows anew told
      found
      numbered rest =
      elim (eqb_tells at index) [
        | inl here ↦ let none : None ≡ Some ticket = rw here.0 at told in absurd (cc)
        | inr apart ↦
            let one : told_at index earlier ≡ Some ticket = rw apart.0 at told in
            let two : finder_at index earlier ≡ Some finder = rw apart.0 at found in
            let three : last_arming_number index earlier ≡ Some number = rw apart.0 at numbered in
            inr (rest one two three)
      ]
  tell_step finder ticket task (TryConsume at word) (answers.Flag true) earlier rules allows anew
      told
      found numbered rest =
      elim (eqb_tells at index) [
        | inl here ↦
            let none : told_at index earlier ≡ None = rw here.1 at anew.2 in absurd (cc)
        | inr apart ↦
            let two : finder_at index earlier ≡ Some finder = rw apart.0 at found in
            inr (rest told two numbered)
      ]
  tell_step finder ticket task (Tell at its) answer earlier rules allows anew told found numbered
      rest =
      elim (eqb_tells at index) [
        | inl here ↦
            let same : Some its ≡ Some ticket = rw here.0 at told in
            let part =
            here_part at (in_hand (records_of task earlier)) (Taken allows.1.0) allows.1.1 in
            let fits = fits_all page_slots locks cells earlier rules index in
            let v : View = view_of page_slots locks cells earlier index in
            let who = teller index v task allows.1.0 fits (rw here.1 at part) in
            inl (record {
              task = some_same (sym who ∙ found);
              step = rw (here.1, some_same same) refl;
              last = numbered;
            })
        | inr apart ↦
            let one : told_at index earlier ≡ Some ticket = rw apart.0 at told in
            inr (rest one found numbered)
      ]
  tell_step finder ticket task step answer earlier rules allows anew told found numbered rest =
      inr (rest told found numbered)

  pub tell_stands : (finder ticket : ℕ) (records : List Record)
      → Keeps page_slots locks cells records → MeetOnce records
      → told_at index records ≡ Some ticket → finder_at index records ≡ Some finder
      → last_arming_number index records ≡ Some number
      → ToldBy finder ticket records
  tell_stands finder ticket [] rules once told found numbered = absurd (cc)
  tell_stands finder ticket (latest ∷ earlier) rules once told found numbered =
      let before = keeps_before page_slots locks cells latest earlier rules in
      tell_step finder ticket latest.task latest.step latest.answer earlier before
      (allowed_at latest earlier rules.keeps) once.1 told found numbered
      (tell_stands finder ticket earlier before once.0)
