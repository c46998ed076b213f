-- What a task has heard of the other half is the ticket that the other of its arming gave.
use Rattle.std.proofs.Common.{◌≡◌, ◌≢◌, ◌<◌, inl, inr, ℕ, true, length, List, [], ◌∷◌, Option, None}
use Rattle.std.proofs.Common.{Some, refl, sym, ap, ◌∙◌, arith}
use Rattle.std.proofs.lemmas.Bool.{eq-eqb}
use Rattle.std.proofs.lemmas.Bool.Decides.{eqb_tells}
use Rattle.slot.specs.Pair.{Halves}
use Rattle.slot_table.specs.Armings.{Arming, armed_after, finder_at, last_arming}
use Rattle.slot_table.specs.Armings.{last_arming_number, number_after, number_made}
use Rattle.slot_table.specs.Armings.{number_made_after, number_taken, number_taken_after}
use Rattle.slot_table.specs.Armings.{taken_after}
use Rattle.slot_table.specs.Discipline.{Allows, IsOwnTicket, heard, in_hand}
use Rattle.slot_table.specs.Hearings.{EachHearsTheOther, HeardItsFinder, HeardItsSetter}
use Rattle.slot_table.specs.Hearings.{HearsTheOther}
use Rattle.slot_table.specs.Records.{records_of}
use Rattle.slot_table.specs.Roles.{part_of}
use Rattle.slot_table.specs.declared.discipline.Part.TheVariants.{Hit, Taken, Untouched}
use Rattle.slot_table.specs.declared.records.Record.{Record}
use Rattle.slot_table.specs.declared.step.Answer.{Answer}
use Rattle.slot_table.specs.declared.step.Answer.TheVariants as answers
use Rattle.slot_table.specs.declared.step.Step.{Step}
use Rattle.slot_table.specs.declared.step.Step.TheVariants.{Insert, TryConsume, Clear, Tell}
use Rattle.slot_table.proofs.Sources.{arming_stands, name_stands, taking_stands, tell_stands}
use Rattle.slot_table.proofs.Lists.{Keeps, allowed_at, fits_all, keeps_before, view_of}
use Rattle.slot_table.proofs.Moves.{is_finder, is_setter, some_same, taker_is}
use Rattle.slot_table.proofs.Firsts.{meet_once}
use Rattle.slot_table.proofs.Phases as phases
use Rattle.slot_table.proofs.Phases.{View, Fits, Open, StillStands}
use Rattle.slot_table.proofs.Steps.{here_part}

-- the last arming is the one that its setter made last there
made_step : (setter index word task : ℕ) (step : Step) (answer : Answer) (number : ℕ)
    (before : Option Arming) (last made : Option ℕ)
    → armed_after index task step answer before ≡ Some (record { setter = setter; word = word })
    → (before ≡ Some (record { setter = setter; word = word }) → made ≡ last)
    → number_made_after setter index task step answer number made
    ≡ number_after index step answer number last
made_step setter index word task (Insert at its) (answers.Flag true) number before last made armed
    same =
    elim (eqb_tells at index) [
      | inl here ↦
          let is : Some (record { setter = task; word = its })
          ≡ Some (record { setter = setter; word = word }) = rw here.0 at armed in
          let who : task ≡ setter = ap (λ (it : Arming). it.setter) (some_same is) in
          rw (here.0, eq-eqb task setter who) refl
      | inr apart ↦
          let is : before ≡ Some (record { setter = setter; word = word }) = rw apart.0 at armed in
          rw apart.0 (same is)
    ]
made_step setter index word task step answer number before last made armed same = same armed

made_last : (setter index word : ℕ) (records : List Record)
    → last_arming index records ≡ Some (record { setter = setter; word = word })
    → number_made setter index records ≡ last_arming_number index records
made_last setter index word [] armed = refl
made_last setter index word (latest ∷ earlier) armed =
    made_step setter index word latest.task latest.step latest.answer (length earlier)
    (last_arming index earlier) (last_arming_number index earlier)
    (number_made setter index earlier) armed (made_last setter index word earlier)

-- and the one that its finder took last there
taken_step : (finder index task : ℕ) (step : Step) (answer : Answer) (number : ℕ)
    (before last taken : Option ℕ)
    → taken_after index task step answer before ≡ Some finder
    → (before ≡ Some finder → taken ≡ last)
    → number_taken_after finder index task step answer last taken
    ≡ number_after index step answer number last
taken_step finder index task (Insert at word) (answers.Flag true) number before last taken found
    same =
    elim (eqb_tells at index) [
      | inl here ↦ let none : None ≡ Some finder = rw here.0 at found in absurd (cc)
      | inr apart ↦
          let is : before ≡ Some finder = rw apart.0 at found in rw apart.0 (same is)
    ]
taken_step finder index task (TryConsume at word) (answers.Flag true) number before last taken found
    same =
    elim (eqb_tells at index) [
      | inl here ↦
          let is : Some task ≡ Some finder = rw here.0 at found in
          rw (here.0, eq-eqb task finder (some_same is)) refl
      | inr apart ↦
          let is : before ≡ Some finder = rw apart.0 at found in rw apart.0 (same is)
    ]
taken_step finder index task step answer number before last taken found same = same found

taken_last : (finder index : ℕ) (records : List Record)
    → finder_at index records ≡ Some finder
    → number_taken finder index records ≡ last_arming_number index records
taken_last finder index [] found = refl
taken_last finder index (latest ∷ earlier) found =
    taken_step finder index latest.task latest.step latest.answer (length earlier)
    (finder_at index earlier) (last_arming_number index earlier)
    (number_taken finder index earlier) found (taken_last finder index earlier)

-- what an open arming says of a finder that has heard its setter's half
record FromSetter (index : ℕ) (phase : phases.Phase) (v : View) (h : Open index phase v)
    (task word : ℕ) (both : Halves) : Type 0 where
  same : h.word ≡ word
  found : v.last.finder ≡ Some task
  named : v.last.named ≡ Some both.setter
  own : IsOwnTicket h.setter both.setter
  untold : v.last.telling ≡ None

from_setter : (index : ℕ) (phase : phases.Phase) (v : View) (h : Open index phase v)
    (task word : ℕ) (both : Halves)
    → phases.finder_part phase h.word task ≡ Some (Taken word)
    → StillStands both v.pair → 0 < both.setter
    → FromSetter index phase v h task word both
from_setter index (phases.FreshTaken finder) v h task word both takes stands above =
    let half : v.pair.setter ≡ 0 = ap (λ (pair : Halves). pair.setter) h.pair_is in
    absurd (omega (arith, stands.0 above))
from_setter index (phases.NamedTaken finder ticket) v h task word both takes stands above =
    let half : v.pair.setter ≡ ticket = ap (λ (pair : Halves). pair.setter) h.pair_is in
    let its : both.setter ≡ ticket = sym (stands.0 above) ∙ half in
    let is = taker_is finder h.word task word takes in
    record {
      same = is.1;
      found = h.finder ∙ ap (λ (n : ℕ). Some n) is.0;
      named = h.named ∙ ap (λ (n : ℕ). Some n) (sym its);
      own = rw its h.owned;
      untold = h.telling;
    }
from_setter index (phases.HitTaken finder ticket) v h task word both takes stands above =
    let half : v.pair.setter ≡ ticket = ap (λ (pair : Halves). pair.setter) h.pair_is in
    let its : both.setter ≡ ticket = sym (stands.0 above) ∙ half in
    let is = taker_is finder h.word task word takes in
    record {
      same = is.1;
      found = h.finder ∙ ap (λ (n : ℕ). Some n) is.0;
      named = h.named ∙ ap (λ (n : ℕ). Some n) (sym its);
      own = rw its h.owned;
      untold = h.telling;
    }
from_setter index phase v h task word both takes stands above = absurd (cc)

-- what it says of its setter, this task, that has heard its finder's half
record FromFinder (v : View) (task : ℕ) (both : Halves) : Type 0 where
  finder : ℕ
  found : v.last.finder ≡ Some finder
  two : finder ≢ task
  named : v.last.named ≡ Some both.setter
  own : IsOwnTicket task both.setter
  told : v.last.telling ≡ Some both.finder
  theirs : IsOwnTicket finder both.finder

from_finder : (index : ℕ) (phase : phases.Phase) (v : View) (h : Open index phase v) (task : ℕ)
    (both : Halves)
    → task ≡ h.setter → phases.setter_part phase h.word ≡ Hit → v.hears task ≡ Some both
    → StillStands both v.pair → 0 < both.finder
    → FromFinder v task both
from_finder index (phases.HitTaken finder ticket) v h task both is e heard stands above =
    let half : v.pair.finder ≡ 0 = ap (λ (pair : Halves). pair.finder) h.pair_is in
    absurd (omega (arith, stands.1 above))
from_finder index (phases.HitTold finder ticket telling) v h task both is e heard stands above =
    let half : v.pair.setter ≡ ticket = ap (λ (pair : Halves). pair.setter) h.pair_is in
    let their_half : v.pair.finder ≡ telling = ap (λ (pair : Halves). pair.finder) h.pair_is in
    let its : both.setter ≡ ticket = h.own_half both (rw is at heard) ∙ half in
    let other : both.finder ≡ telling = sym (stands.1 above) ∙ their_half in
    record {
      finder = finder;
      found = h.finder;
      two = rw is (h.two finder refl);
      named = h.named ∙ ap (λ (n : ℕ). Some n) (sym its);
      own = rw (is, its) h.owned.0;
      told = h.telling ∙ ap (λ (n : ℕ). Some n) (sym other);
      theirs = rw other h.owned.1;
    }
from_finder index phase v h task both is e heard stands above = absurd (cc)

module _ (page_slots locks : ℕ) (cells : List ℕ) where
  -- a finder heard its setter
  finder_of : (records : List Record) (task index word : ℕ) (both : Halves)
      → Keeps page_slots locks cells records
      → Fits index (view_of page_slots locks cells records index)
      → part_of task index records ≡ Some (Taken word)
      → heard index (records_of task records) ≡ Some both → 0 < both.setter
      → HeardItsSetter task index word both records
  finder_of records task index word both rules (hears, inl idle) has its above =
      let none = idle.nobody task in absurd (cc)
  finder_of records task index word both rules (hears, inr (phase, h)) has its above =
      let v = view_of page_slots locks cells records index in
      let apart = is_finder index phase v h task word has in
      let from = from_setter index phase v h task word both (sym (h.others task apart) ∙ has)
      (hears task (Taken word) both has its) above in
      let once = meet_once page_slots locks cells records rules in
      let armed : last_arming index records ≡ Some (record { setter = h.setter; word = word }) =
      rw (← from.same) h.arming in
      record {
        setter = h.setter;
        number = h.number;
        met = record {
          last = h.numbered;
          armed = armed;
          made = made_last h.setter index h.word records h.arming ∙ h.numbered;
          arming = arming_stands index h.number h.setter word records armed h.numbered;
          found = from.found;
          taken = taken_last task index records from.found ∙ h.numbered;
          taking = taking_stands index h.number h.setter task word records once from.found armed
              h.numbered;
          two = apart;
        };
        named = from.named;
        naming = name_stands page_slots locks cells index h.number
            (record { setter = h.setter; word = word }) both.setter records rules from.named armed
            h.numbered;
        own = from.own;
        untold = from.untold;
      }

  pub heard_setter : (records : List Record)
      → Keeps page_slots locks cells records
      → (task index word : ℕ) (both : Halves)
      → part_of task index records ≡ Some (Taken word)
      → heard index (records_of task records) ≡ Some both → 0 < both.setter
      → HeardItsSetter task index word both records
  heard_setter records rules task index word both =
      finder_of records task index word both rules
      (fits_all page_slots locks cells records rules index)

  -- a setter heard its finder
  setter_of : (records : List Record) (task index : ℕ) (both : Halves)
      → Keeps page_slots locks cells records
      → Fits index (view_of page_slots locks cells records index)
      → part_of task index records ≡ Some Hit
      → heard index (records_of task records) ≡ Some both → 0 < both.finder
      → HeardItsFinder task index both records
  setter_of records task index both rules (hears, inl idle) has its above =
      let none = idle.nobody task in absurd (cc)
  setter_of records task index both rules (hears, inr (phase, h)) has its above =
      let v = view_of page_slots locks cells records index in
      let it = is_setter index phase v h task Hit has (λ other e. cc) in
      let from = from_finder index phase v h task both it.0 it.1 its
      (hears task Hit both has its) above in
      let armed : last_arming index records ≡ Some (record { setter = task; word = h.word }) =
      rw it.0 h.arming in
      let once = meet_once page_slots locks cells records rules in
      record {
        finder = from.finder;
        word = h.word;
        number = h.number;
        met = record {
          last = h.numbered;
          armed = armed;
          made = made_last task index h.word records armed ∙ h.numbered;
          arming = arming_stands index h.number task h.word records armed h.numbered;
          found = from.found;
          taken = taken_last from.finder index records from.found ∙ h.numbered;
          taking =
              taking_stands index h.number task from.finder h.word records once from.found armed
              h.numbered;
          two = from.two;
        };
        named = from.named;
        naming = name_stands page_slots locks cells index h.number
            (record { setter = task; word = h.word }) both.setter records rules from.named armed
            h.numbered;
        own = from.own;
        told = from.told;
        telling = tell_stands page_slots locks cells index h.number from.finder both.finder records
            rules once from.told from.found h.numbered;
        theirs = from.theirs;
      }

  pub heard_finder : (records : List Record)
      → Keeps page_slots locks cells records
      → (task index : ℕ) (both : Halves)
      → part_of task index records ≡ Some Hit
      → heard index (records_of task records) ≡ Some both → 0 < both.finder
      → HeardItsFinder task index both records
  heard_finder records rules task index both =
      setter_of records task index both rules (fits_all page_slots locks cells records rules index)

  -- each record
  hears_step : (earlier : List Record) (task : ℕ) (step : Step)
      → Keeps page_slots locks cells earlier → Allows task (records_of task earlier) step
      → HearsTheOther task step earlier
  hears_step earlier task (Tell index ticket) rules allows =
      let word : ℕ = allows.1.0 in
      let both : Halves = allows.2.0 in
      let part = here_part index (in_hand (records_of task earlier)) (Taken word) allows.1.1 in (
        word,
        both,
        part,
        allows.2.1,
        heard_setter earlier rules task index word both part allows.2.1 allows.2.2,
      )
  hears_step earlier task (Clear index) rules (inl untouched) = λ has.
      let part = here_part index (in_hand (records_of task earlier)) Untouched untouched in
      absurd (cc)
  hears_step earlier task (Clear index) rules (inr hit) = λ has.
      let both : Halves = hit.1.0 in
      (both, hit.1.1, heard_finder earlier rules task index both has hit.1.1 hit.1.2)
  hears_step earlier task step rules allows = tt

  pub each_hears : (records : List Record) → Keeps page_slots locks cells records
      → EachHearsTheOther records
  each_hears [] rules = tt
  each_hears (latest ∷ earlier) rules =
      let before = keeps_before page_slots locks cells latest earlier rules in (
        each_hears earlier before,
        hears_step earlier latest.task latest.step before (allowed_at latest earlier rules.keeps),
      )
