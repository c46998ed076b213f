-- What finders told and setters heard: at each index the same, and each arming once.
use Rattle.std.proofs.Common.{◌≡◌, ◌≢◌, inl, inr, ℕ, List, [], ◌∷◌, Option, None, Some, refl, sym}
use Rattle.std.specs.List.{AllPairs, cons_option}
use Rattle.slot.specs.Pair.{Halves}
use Rattle.slot_table.specs.Armings.{armings_told, last_arming_number, with_told}
use Rattle.slot_table.specs.Discipline.{AllAreFinished, AllKeepDiscipline, Allows}
use Rattle.slot_table.specs.Meetings.{Meeting, finders_told, meetings_at, numbers_met}
use Rattle.slot_table.specs.Meetings.{setters_heard, told_by, told_to}
use Rattle.slot_table.specs.Records.{records_of}
use Rattle.slot_table.specs.declared.records.Record.{Record}
use Rattle.slot_table.specs.declared.step.Step.{Step}
use Rattle.slot_table.specs.declared.step.Step.TheVariants.{Tell}
use Rattle.slot_table.proofs.Lists.{Keeps, allowed_at, fits_all, kept_before, view_of}
use Rattle.slot_table.proofs.Numbers.{told_differ}
use Rattle.slot_table.proofs.Firsts.{meet_once}
use Rattle.slot_table.proofs.Phases.{View, Fits}

-- where nothing is in hand, all that was told at an index was heard there
told_is_heard : (index : ℕ) (v : View)
    → Fits index v → ((task : ℕ) → v.part task ≡ None) → v.told ≡ v.heard
told_is_heard index v (hears, inl idle) finished = idle.told
told_is_heard index v (hears, inr (phase, h)) finished =
    let none = finished h.setter in let sets = h.sets in absurd (cc)

pub heard_all : (page_slots locks : ℕ) (cells : List ℕ) (records : List Record)
    → Keeps page_slots locks cells records → AllAreFinished records
    → (index : ℕ)
    → meetings_at index (setters_heard records) ≡ meetings_at index (finders_told records)
heard_all page_slots locks cells records rules finished index =
    let fits = fits_all page_slots locks cells records rules index in
    sym (told_is_heard index (view_of page_slots locks cells records index) fits
    (λ task. rw (finished task) refl))

-- a meeting is told over the arming of the tell
number_told : (index ticket : ℕ) (last : Option ℕ) (both : Halves) (before : List Meeting)
    → numbers_met (told_to index ticket last (Some both) before)
    ≡ cons_option last (numbers_met before)
number_told index ticket None both before = refl
number_told index ticket (Some number) both before = refl

number_step : (task : ℕ) (step : Step) (earlier : List Record)
    → Allows task (records_of task earlier) step
    → numbers_met (finders_told earlier) ≡ armings_told earlier
    → numbers_met (told_by task step earlier (finders_told earlier))
    ≡ with_told step earlier (armings_told earlier)
number_step task (Tell index ticket) earlier allows same =
    let last : Option ℕ = last_arming_number index earlier in
    rw (allows.2.1, number_told index ticket last allows.2.0 (finders_told earlier), same) refl
number_step task step earlier allows same = same

pub numbers_told : (records : List Record)
    → AllKeepDiscipline records → numbers_met (finders_told records) ≡ armings_told records
numbers_told [] keeps = refl
numbers_told (latest ∷ earlier) keeps =
    number_step latest.task latest.step earlier (allowed_at latest earlier keeps)
    (numbers_told earlier (kept_before latest earlier keeps))

pub meetings_differ : (page_slots locks : ℕ) (cells : List ℕ) (records : List Record)
    → Keeps page_slots locks cells records
    → AllPairs (λ a b. a ≢ b) (numbers_met (finders_told records))
meetings_differ page_slots locks cells records rules =
    rw (numbers_told records rules.keeps)
    (told_differ records (meet_once page_slots locks cells records rules))
