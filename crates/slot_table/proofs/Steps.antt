-- Each step that is legal and allowed keeps what stands at every index.
use Rattle.std.proofs.Common.{◌≡◌, ◌≢◌, ◌<◌, inl, inr, ℕ, Bool, true, false, not, ◌||◌, cond, eqb}
use Rattle.std.proofs.Common.{List, ◌∷◌, Option, None, Some, length, get_or, slice_index}
use Rattle.std.proofs.Common.{slice_index_or, slice_set, refl, sym}
use Rattle.std.proofs.lemmas.Bool.{eq-eqb, eqb-true}
use Rattle.std.proofs.lemmas.Bool.Decides.{eqb_tells}
use Rattle.std.proofs.lemmas.List.{get_or-set_other, get_or-set_same, set-get_or}
use Rattle.slot.specs.Pair.{Halves, unnamed}
use Rattle.slot_table.specs.Armings.{last_arming_number}
use Rattle.slot_table.specs.Discipline.{Allows, IsOwnTicket, hand_after, heard, heard_after}
use Rattle.slot_table.specs.Discipline.{in_hand, part_at}
use Rattle.slot_table.specs.declared.discipline.InHand.{InHand}
use Rattle.slot_table.specs.declared.discipline.Part.{Part}
use Rattle.slot_table.specs.declared.discipline.Part.TheVariants.{Inserted, Named, Untouched, Hit}
use Rattle.slot_table.specs.declared.discipline.Part.TheVariants.{Cleared, Taken}
use Rattle.slot_table.specs.Meetings.{Meeting, finders_told, heard_by, heard_from, meetings_at}
use Rattle.slot_table.specs.Meetings.{setters_heard, told_by, told_to}
use Rattle.slot_table.specs.Records.{records_of}
use Rattle.slot_table.specs.Roles.{pair_at, part_of, watch_word_at}
use Rattle.slot_table.specs.StepLine.{Names, step_line}
use Rattle.slot_table.specs.Words.{Words}
use Rattle.slot_table.specs.declared.records.Record.{Record}
use Rattle.slot_table.specs.declared.step.Answer.{Answer}
use Rattle.slot_table.specs.declared.step.Answer.TheVariants as answers
use Rattle.slot_table.specs.declared.step.Step.{Step}
use Rattle.slot_table.specs.declared.step.Step.TheVariants.{Load, Insert, TryConsume, Consume}
use Rattle.slot_table.specs.declared.step.Step.TheVariants.{Remove, PairLoad, Name, Tell, Clear}
use Rattle.slot_table.specs.declared.step.Step.TheVariants.{CellLoad, CellExchange, LockTry}
use Rattle.slot_table.specs.declared.step.Step.TheVariants.{LockStore, Clock}
use Rattle.slot_table.proofs.Moves.{fits_clear, fits_consume, fits_hear, fits_hit_clear}
use Rattle.slot_table.proofs.Moves.{fits_insert, fits_name, fits_remove, fits_take, fits_tell}
use Rattle.slot_table.proofs.Phases.{View, Fits, after_clear, after_consume, after_hear}
use Rattle.slot_table.proofs.Phases.{after_insert, after_name, after_remove, after_take, after_tell}
use Rattle.slot_table.proofs.Phases.{meeting, named_pair, told_pair}
use Rattle.slot_table.proofs.Updates.{updated_same}
use Rattle.slot_table.proofs.Views.{fits_path, last_after, last_at, view, view_after}

-- a load writes back what it read
loaded : (words : List ℕ) (at index : ℕ)
    → slice_index (slice_set words at (slice_index words at)) index ≡ slice_index words index
loaded words at index = rw (set-get_or words at 0) refl

pair_loaded : (pairs : List Halves) (at index : ℕ)
    → slice_index_or (slice_set pairs at (slice_index_or pairs at unnamed)) index unnamed
    ≡ slice_index_or pairs index unnamed
pair_loaded pairs at index = rw (set-get_or pairs at unnamed) refl

-- a word that is written, read there and elsewhere
set_here : {X : Type 0} (xs : List X) (index : ℕ) (x d : X)
    → index < length xs → get_or (slice_set xs index x) index d ≡ x
set_here xs index x d within = get_or-set_same xs index x d within

set_apart : {X : Type 0} (xs : List X) (at index : ℕ) (x d : X)
    → at ≢ index → get_or (slice_set xs at x) index d ≡ get_or xs index d
set_apart xs at index x d apart = get_or-set_other xs at index x d (λ e. apart (sym e))

-- what is in hand elsewhere is no part here
idle_part : (index : ℕ) (hand : Option InHand) → hand ≡ None → part_at index hand ≡ None
idle_part index hand idle = rw idle refl

apart_part : (index at : ℕ) (hand : Option InHand) (part : Part)
    → eqb at index ≡ false → hand ≡ Some (record { index = at; part = part })
    → part_at index hand ≡ None
apart_part index at hand part apart is = rw (is, apart) refl

pub here_part : (index : ℕ) (hand : Option InHand) (part : Part)
    → hand ≡ Some (record { index = index; part = part }) → part_at index hand ≡ Some part
here_part index hand part is = rw (is, eq-eqb index index refl) refl

-- what a consume leaves in hand
consumed_hand : (b : Bool) (at : ℕ) (before : Option InHand)
    → hand_after (Consume at) (answers.Flag b) before
    ≡ Some (record { index = at; part = cond b Untouched Hit })
consumed_hand true at before = refl
consumed_hand false at before = refl

-- meetings elsewhere are none here
told_apart : (index at ticket : ℕ) (number : Option ℕ) (both : Option Halves)
    (before : List Meeting)
    → eqb at index ≡ false
    → meetings_at index (told_to at ticket number both before) ≡ meetings_at index before
told_apart index at ticket (Some number) (Some both) before apart = rw apart refl
told_apart index at ticket (Some number) None before apart = refl
told_apart index at ticket None both before apart = refl

heard_apart : (index at : ℕ) (number : Option ℕ) (both : Option Halves) (before : List Meeting)
    → eqb at index ≡ false
    → meetings_at index (heard_from at (Some Hit) number both before) ≡ meetings_at index before
heard_apart index at (Some number) (Some both) before apart = rw apart refl
heard_apart index at (Some number) None before apart = refl
heard_apart index at None both before apart = refl

-- the step of a task at one index, after these records
module _ (index : ℕ) (words : Words) (earlier : List Record) (task : ℕ) where
  abbrev now : View
  now = view words earlier index

  abbrev own : List Record
  own = records_of task earlier

  abbrev next : Words → Step → Answer → View
  next after step answer = view_after after earlier index task step answer

  -- a step that changes nothing there
  fits_still : (after : Words) (step : Step) (answer : Answer)
      → Fits index now
      → watch_word_at index after ≡ watch_word_at index words
      → pair_at index after ≡ pair_at index words
      → part_at index (hand_after step answer (in_hand own)) ≡ part_at index (in_hand own)
      → heard_after index step answer (heard index own) ≡ heard index own
      → last_after index task step answer earlier ≡ last_at index earlier
      → meetings_at index (told_by task step earlier (finders_told earlier))
      ≡ meetings_at index (finders_told earlier)
      → meetings_at index (heard_by task step earlier (setters_heard earlier))
      ≡ meetings_at index (setters_heard earlier)
      → Fits index (next after step answer)
  fits_still after step answer fits word pair part hears last told heard_is =
      fits_path index (next after step answer) now (record {
        word = word;
        pair = pair;
        part = updated_same (λ other. part_of other index earlier) task
            (part_at index (hand_after step answer (in_hand own))) part;
        hears = updated_same (λ other. heard index (records_of other earlier)) task
            (heard_after index step answer (heard index own)) hears;
        last = last;
        told = told;
        heard = heard_is;
      }) fits

  fits_load : (at : ℕ) (answer : Answer)
      → Fits index now → Fits index (next (step_line words (Load at)).after (Load at) answer)
  fits_load at answer fits =
      fits_still (step_line words (Load at)).after (Load at) answer fits
      (loaded words.watch_words at index) refl refl refl refl refl refl

  fits_pair_load : (at : ℕ)
      → Fits index now
      → Fits index
      (next (step_line words (PairLoad at)).after (PairLoad at)
      (step_line words (PairLoad at)).answer)
  fits_pair_load at fits =
      let after = (step_line words (PairLoad at)).after in
      let answer = (step_line words (PairLoad at)).answer in
      elim (eqb_tells at index) [
        | inl same ↦
            fits_path index (next after (PairLoad at) answer) (after_hear now task) (record {
              word = refl;
              pair = pair_loaded words.pair_words at index;
              part =
                  updated_same (λ other. part_of other index earlier) task
                  (part_at index (in_hand own)) refl;
              hears = rw same.0 (rw same.1 refl);
              last = refl;
              told = refl;
              heard = refl;
            }) (fits_hear index now task fits)
        | inr apart ↦
            fits_still after (PairLoad at) answer fits
            refl (pair_loaded words.pair_words at index) refl (rw apart.0 refl) refl refl refl
      ]

  -- an insertion
  insert_step : (b : Bool) (at word : ℕ)
      → eqb (slice_index words.watch_words at) 0 ≡ b → at < length words.watch_words → 1 < word
      → in_hand own ≡ None → Fits index now
      → Fits index (next
      (record words {
        watch_words =
            slice_set words.watch_words at (cond b word (slice_index words.watch_words at));
      })
      (Insert at word) (answers.Flag b))
  insert_step false at word e within above idle fits =
      fits_still (step_line words (Load at)).after (Insert at word) (answers.Flag false) fits
      (loaded words.watch_words at index) refl refl refl refl refl refl
  insert_step true at word e within above idle fits =
      let after = record words { watch_words = slice_set words.watch_words at word } in
      elim (eqb_tells at index) [
        | inl same ↦
            let empty : slice_index words.watch_words index ≡ 0 =
            rw same.1 at (eqb-true (slice_index words.watch_words at) 0 e) in
            fits_path index (next after (Insert at word) (answers.Flag true))
            (after_insert now task word (length earlier)) (record {
              word = rw same.1 (set_here words.watch_words index word 0 (rw same.1 at within));
              pair = refl;
              part = rw same.0 refl;
              hears = rw same.0 refl;
              last = rw same.0 refl;
              told = refl;
              heard = refl;
            }) (fits_insert index now task word (length earlier) fits empty above)
        | inr apart ↦
            fits_still after (Insert at word) (answers.Flag true) fits
            (set_apart words.watch_words at index word 0 apart.1) refl
            (rw apart.0 (sym (idle_part index (in_hand own) idle)))
            (rw apart.0 refl) (rw apart.0 refl) refl refl
      ]

  -- a try
  try_step : (b : Bool) (at word : ℕ)
      → eqb (slice_index words.watch_words at) word ≡ b → at < length words.watch_words → 1 < word
      → in_hand own ≡ None → Fits index now
      → Fits index (next
      (record words {
        watch_words = slice_set words.watch_words at (cond b 1 (slice_index words.watch_words at));
      })
      (TryConsume at word) (answers.Flag b))
  try_step false at word e within above idle fits =
      fits_still (step_line words (Load at)).after (TryConsume at word) (answers.Flag false) fits
      (loaded words.watch_words at index) refl refl refl refl refl refl
  try_step true at word e within above idle fits =
      let after = record words { watch_words = slice_set words.watch_words at 1 } in
      elim (eqb_tells at index) [
        | inl same ↦
            let is : slice_index words.watch_words index ≡ word =
            rw same.1 at (eqb-true (slice_index words.watch_words at) word e) in
            fits_path index (next after (TryConsume at word) (answers.Flag true))
            (after_take now task word) (record {
              word = rw same.1 (set_here words.watch_words index 1 0 (rw same.1 at within));
              pair = refl;
              part = rw same.0 refl;
              hears = rw same.0 refl;
              last = rw same.0 refl;
              told = refl;
              heard = refl;
            }) (fits_take index now task word fits (idle_part index (in_hand own) idle) is above)
        | inr apart ↦
            fits_still after (TryConsume at word) (answers.Flag true) fits
            (set_apart words.watch_words at index 1 0 apart.1) refl
            (rw apart.0 (sym (idle_part index (in_hand own) idle)))
            (rw apart.0 refl) (rw apart.0 refl) refl refl
      ]

  -- a consume
  consume_step : (at ticket : ℕ)
      → at < length words.watch_words
      → in_hand own ≡ Some (record { index = at; part = Named ticket }) → Fits index now
      → Fits index
      (next (step_line words (Consume at)).after (Consume at)
      (step_line words (Consume at)).answer)
  consume_step at ticket within has fits =
      let old = slice_index words.watch_words at in
      let hand = consumed_hand (not (eqb old 0 || eqb old 1)) at (in_hand own) in
      let after = (step_line words (Consume at)).after in
      let answer = (step_line words (Consume at)).answer in
      elim (eqb_tells at index) [
        | inl same ↦
            fits_path index (next after (Consume at) answer) (after_consume now task) (record {
              word = rw same.1 (set_here words.watch_words index 1 0 (rw same.1 at within));
              pair = refl;
              part = rw (hand, same.0, same.1) refl;
              hears = rw same.0 refl;
              last = refl;
              told = refl;
              heard = refl;
            })
            (fits_consume index now task ticket fits
            (here_part index (in_hand own) (Named ticket) (rw same.1 at has)))
        | inr apart ↦
            fits_still after (Consume at) answer fits
            (set_apart words.watch_words at index 1 0 apart.1) refl
            (rw (hand, apart.0)
            (sym (apart_part index at (in_hand own) (Named ticket) apart.0 has)))
            (rw apart.0 refl) refl refl refl
      ]

  -- a remove
  remove_step : (at : ℕ)
      → at < length words.watch_words
      → in_hand own ≡ Some (record { index = at; part = Cleared }) → Fits index now
      → Fits index (next (step_line words (Remove at)).after (Remove at) answers.Done)
  remove_step at within has fits =
      let after = (step_line words (Remove at)).after in
      elim (eqb_tells at index) [
        | inl same ↦
            fits_path index (next after (Remove at) answers.Done) (after_remove now task) (record {
              word = rw same.1 (set_here words.watch_words index 0 0 (rw same.1 at within));
              pair = refl;
              part = refl;
              hears = rw same.0 refl;
              last = refl;
              told = refl;
              heard = refl;
            })
            (fits_remove index now task fits
            (here_part index (in_hand own) Cleared (rw same.1 at has)))
        | inr apart ↦
            fits_still after (Remove at) answers.Done fits
            (set_apart words.watch_words at index 0 0 apart.1) refl
            (sym (apart_part index at (in_hand own) Cleared apart.0 has))
            (rw apart.0 refl) refl refl refl
      ]

  -- a name
  name_step : (at ticket word : ℕ)
      → at < length words.pair_words
      → in_hand own ≡ Some (record { index = at; part = Inserted word }) → IsOwnTicket task ticket
      → Fits index now
      → Fits index (next (step_line words (Name at ticket)).after (Name at ticket) answers.Done)
  name_step at ticket word within has owned fits =
      let after = (step_line words (Name at ticket)).after in
      elim (eqb_tells at index) [
        | inl same ↦
            let pair = named_pair (slice_index_or words.pair_words index unnamed) ticket in
            fits_path index (next after (Name at ticket) answers.Done) (after_name now task ticket)
            (record {
              word = refl;
              pair = rw same.1 (set_here words.pair_words index pair unnamed (rw same.1 at within));
              part = rw same.0 refl;
              hears = rw same.0 refl;
              last = rw same.0 refl;
              told = refl;
              heard = refl;
            })
            (fits_name index now task word ticket fits
            (here_part index (in_hand own) (Inserted word) (rw same.1 at has)) owned)
        | inr apart ↦
            let pair = named_pair (slice_index_or words.pair_words at unnamed) ticket in
            fits_still after (Name at ticket) answers.Done fits
            refl (set_apart words.pair_words at index pair unnamed apart.1)
            (rw apart.0 (sym (apart_part index at (in_hand own) (Inserted word) apart.0 has)))
            (rw apart.0 refl) (rw apart.0 refl) refl refl
      ]

  -- a tell
  tell_step : (at ticket word number : ℕ) (both : Halves)
      → at < length words.pair_words
      → in_hand own ≡ Some (record { index = at; part = Taken word })
      → heard at own ≡ Some both → last_arming_number at earlier ≡ Some number
      → 0 < both.setter → IsOwnTicket task ticket → Fits index now
      → Fits index (next (step_line words (Tell at ticket)).after (Tell at ticket) answers.Done)
  tell_step at ticket word number both within has hears numbered above owned fits =
      let after = (step_line words (Tell at ticket)).after in
      elim (eqb_tells at index) [
        | inl same ↦
            let pair = told_pair (slice_index_or words.pair_words index unnamed) ticket in
            let met =
            meeting index number both.setter ticket
            ∷ meetings_at index (finders_told earlier) in
            fits_path index (next after (Tell at ticket) answers.Done)
            (after_tell now task ticket met) (record {
              word = refl;
              pair = rw same.1 (set_here words.pair_words index pair unnamed (rw same.1 at within));
              part = refl;
              hears = rw same.0 refl;
              last = rw same.0 refl;
              told = rw (hears, numbered, same.0, same.1) refl;
              heard = refl;
            })
            (fits_tell index now task word ticket number both fits
            (here_part index (in_hand own) (Taken word) (rw same.1 at has))
            (rw same.1 at hears) (rw same.1 at numbered) above owned)
        | inr apart ↦
            let pair = told_pair (slice_index_or words.pair_words at unnamed) ticket in
            fits_still after (Tell at ticket) answers.Done fits
            refl (set_apart words.pair_words at index pair unnamed apart.1)
            (sym (apart_part index at (in_hand own) (Taken word) apart.0 has))
            (rw apart.0 refl) (rw apart.0 refl)
            (told_apart index at ticket (last_arming_number at earlier) (heard at own)
            (finders_told earlier) apart.0)
            refl
      ]

  -- a clear, of a pair that nobody told
  clear_step : (at : ℕ)
      → at < length words.pair_words
      → in_hand own ≡ Some (record { index = at; part = Untouched }) → Fits index now
      → Fits index (next (step_line words (Clear at)).after (Clear at) answers.Done)
  clear_step at within has fits =
      let after = (step_line words (Clear at)).after in
      let part = here_part at (in_hand own) Untouched has in
      elim (eqb_tells at index) [
        | inl same ↦
            fits_path index (next after (Clear at) answers.Done)
            (after_clear now task (meetings_at index (setters_heard earlier))) (record {
              word = refl;
              pair =
                  rw same.1 (set_here words.pair_words index unnamed unnamed (rw same.1 at within));
              part = rw same.0 refl;
              hears = rw same.0 refl;
              last = refl;
              told = refl;
              heard = rw part refl;
            }) (fits_clear index now task fits (rw same.1 at part))
        | inr apart ↦
            fits_still after (Clear at) answers.Done fits
            refl (set_apart words.pair_words at index unnamed unnamed apart.1)
            (rw apart.0 (sym (apart_part index at (in_hand own) Untouched apart.0 has)))
            (rw apart.0 refl) refl refl (rw part refl)
      ]

  -- a clear, of a pair that a finder told
  hit_clear_step : (at number : ℕ) (both : Halves)
      → at < length words.pair_words
      → in_hand own ≡ Some (record { index = at; part = Hit })
      → heard at own ≡ Some both → last_arming_number at earlier ≡ Some number
      → 0 < both.finder → Fits index now
      → Fits index (next (step_line words (Clear at)).after (Clear at) answers.Done)
  hit_clear_step at number both within has hears numbered above fits =
      let after = (step_line words (Clear at)).after in
      let part = here_part at (in_hand own) Hit has in
      elim (eqb_tells at index) [
        | inl same ↦
            let met =
            meeting index number both.setter both.finder
            ∷ meetings_at index (setters_heard earlier) in
            fits_path index (next after (Clear at) answers.Done) (after_clear now task met)
            (record {
              word = refl;
              pair =
                  rw same.1 (set_here words.pair_words index unnamed unnamed (rw same.1 at within));
              part = rw same.0 refl;
              hears = rw same.0 refl;
              last = refl;
              told = refl;
              heard = rw (part, hears, numbered, same.0, same.1) refl;
            })
            (fits_hit_clear index now task number both fits (rw same.1 at part)
            (rw same.1 at hears) (rw same.1 at numbered) above)
        | inr apart ↦
            fits_still after (Clear at) answers.Done fits
            refl (set_apart words.pair_words at index unnamed unnamed apart.1)
            (rw apart.0 (sym (apart_part index at (in_hand own) Hit apart.0 has)))
            (rw apart.0 refl) refl refl
            (rw part (heard_apart index at (last_arming_number at earlier) (heard at own)
            (setters_heard earlier) apart.0))
      ]

-- an arming that a task has a part in has a number
pub numbered : (at : ℕ) (words : Words) (earlier : List Record) (task : ℕ) (part : Part)
    → Fits at (view words earlier at)
    → in_hand (records_of task earlier) ≡ Some (record { index = at; part = part })
    → (number : ℕ) × (last_arming_number at earlier ≡ Some number)
numbered at words earlier task part (hears, inl idle) has =
    let none = idle.nobody task in
    let its = here_part at (in_hand (records_of task earlier)) part has in
    absurd (cc)
numbered at words earlier task part (hears, inr (phase, h)) has = (h.number, h.numbered)

-- any step, where what stands at each index fits
pub fits_step : (index : ℕ) (words : Words) (earlier : List Record) (task : ℕ) (step : Step)
    → Names words step → Allows task (records_of task earlier) step
    → ((at : ℕ) → Fits at (view words earlier at))
    → Fits index (view_after (step_line words step).after earlier index task step
    (step_line words step).answer)
fits_step index words earlier task (Load at) names allows fits =
    fits_load index words earlier task at (step_line words (Load at)).answer (fits index)
fits_step index words earlier task (Insert at word) names allows fits =
    insert_step index words earlier task (eqb (slice_index words.watch_words at) 0) at word
    refl names.0 names.1 allows.1 (fits index)
fits_step index words earlier task (TryConsume at word) names allows fits =
    try_step index words earlier task (eqb (slice_index words.watch_words at) word) at word
    refl names.0 names.1 allows.2 (fits index)
fits_step index words earlier task (Consume at) names allows fits =
    consume_step index words earlier task at allows.0 names allows.1 (fits index)
fits_step index words earlier task (Remove at) names allows fits =
    remove_step index words earlier task at names allows (fits index)
fits_step index words earlier task (PairLoad at) names allows fits =
    fits_pair_load index words earlier task at (fits index)
fits_step index words earlier task (Name at ticket) names allows fits =
    name_step index words earlier task at ticket allows.1 names allows.2 allows.0 (fits index)
fits_step index words earlier task (Tell at ticket) names allows fits =
    let it = numbered at words earlier task (Taken allows.1.0) (fits at) allows.1.1 in
    tell_step index words earlier task at ticket allows.1.0 it.0 allows.2.0
    names allows.1.1 allows.2.1 it.1 allows.2.2 allows.0 (fits index)
fits_step index words earlier task (Clear at) names (inl untouched) fits =
    clear_step index words earlier task at names untouched (fits index)
fits_step index words earlier task (Clear at) names (inr hit) fits =
    let it = numbered at words earlier task Hit (fits at) hit.0 in
    hit_clear_step index words earlier task at it.0 hit.1.0
    names hit.0 hit.1.1 it.1 hit.1.2 (fits index)
fits_step index words earlier task (CellLoad cell) names allows fits =
    fits_still index words earlier task (step_line words (CellLoad cell)).after (CellLoad cell)
    (step_line words (CellLoad cell)).answer (fits index) refl refl refl refl refl refl refl
fits_step index words earlier task (CellExchange cell expected new) names allows fits =
    let step = CellExchange cell expected new in
    fits_still index words earlier task (step_line words step).after step
    (step_line words step).answer (fits index) refl refl refl refl refl refl refl
fits_step index words earlier task (LockTry lock holder) names allows fits =
    fits_still index words earlier task (step_line words (LockTry lock holder)).after
    (LockTry lock holder)
    (step_line words (LockTry lock holder)).answer (fits index) refl refl refl refl refl refl refl
fits_step index words earlier task (LockStore lock) names allows fits =
    fits_still index words earlier task (step_line words (LockStore lock)).after (LockStore lock)
    (step_line words (LockStore lock)).answer (fits index) refl refl refl refl refl refl refl
fits_step index words earlier task Clock names allows fits =
    fits_still index words earlier task (step_line words Clock).after Clock
    (step_line words Clock).answer (fits index) refl refl refl refl refl refl refl
