-- What words and a list say of an index, and how one record changes it.
use Rattle.std.proofs.Common.{◌≡◌, ◌≢◌, ◌⊎◌, inl, inr, ℕ, true, false, eqb, length, List, ◌∷◌, refl}
use Rattle.std.proofs.Common.{sym, ap, subst}
use Rattle.std.proofs.lemmas.Bool.Decides.{eqb_tells}
use mathlib.Core.Path.{fun_ext}
use Rattle.slot_table.specs.Armings.{armed_after, finder_at, last_arming, last_arming_number}
use Rattle.slot_table.specs.Armings.{named_after, named_at, number_after, taken_after, told_after}
use Rattle.slot_table.specs.Armings.{told_at}
use Rattle.slot_table.specs.Discipline.{hand_after, heard, heard_after, in_hand, part_at}
use Rattle.slot_table.specs.Meetings.{finders_told, heard_by, meetings_at, setters_heard, told_by}
use Rattle.slot_table.specs.Records.{records_of}
use Rattle.slot_table.specs.Roles.{pair_at, part_of, watch_word_at}
use Rattle.slot_table.specs.Words.{Words}
use Rattle.slot_table.specs.declared.records.Record.{Record}
use Rattle.slot_table.specs.declared.step.Answer.{Answer}
use Rattle.slot_table.specs.declared.step.Step.{Step}
use Rattle.slot_table.proofs.Phases.{Last, View, Fits}
use Rattle.slot_table.proofs.Updates.{updated}

-- the last arming at an index
abbrev pub last_at : ℕ → List Record → Last
last_at index records = record {
  arming = last_arming index records;
  number = last_arming_number index records;
  named = named_at index records;
  finder = finder_at index records;
  telling = told_at index records;
}

-- the view of an index
abbrev pub view : Words → List Record → ℕ → View
view words records index = record {
  word = watch_word_at index words;
  pair = pair_at index words;
  part = λ task. part_of task index records;
  hears = λ task. heard index (records_of task records);
  last = last_at index records;
  told = meetings_at index (finders_told records);
  heard = meetings_at index (setters_heard records);
}

-- both after one more record
abbrev pub last_after : ℕ → ℕ → Step → Answer → List Record → Last
last_after index task step answer records = record {
  arming = armed_after index task step answer (last_arming index records);
  number = number_after index step answer (length records) (last_arming_number index records);
  named = named_after index step answer (named_at index records);
  finder = taken_after index task step answer (finder_at index records);
  telling = told_after index step answer (told_at index records);
}

abbrev pub view_after : Words → List Record → ℕ → ℕ → Step → Answer → View
view_after words records index task step answer = record {
  word = watch_word_at index words;
  pair = pair_at index words;
  part = updated (λ other. part_of other index records) task
      (part_at index (hand_after step answer (in_hand (records_of task records))));
  hears = updated (λ other. heard index (records_of other records)) task
      (heard_after index step answer (heard index (records_of task records)));
  last = last_after index task step answer records;
  told = meetings_at index (told_by task step records (finders_told records));
  heard = meetings_at index (heard_by task step records (setters_heard records));
}

-- one more record changes what is said of its task's records alone
module _ {X : Type 0} (F : List Record → X) (latest : Record) (earlier : List Record) where
  abbrev after : ℕ → X
  after = updated (λ task. F (records_of task earlier)) latest.task
      (F (latest ∷ records_of latest.task earlier))

  own_at : (task : ℕ)
      → ((eqb latest.task task ≡ true) × (latest.task ≡ task))
      ⊎ ((eqb latest.task task ≡ false) × (latest.task ≢ task))
      → F (records_of task (latest ∷ earlier)) ≡ after task
  own_at task (inl same) =
      rw same.0 (ap (λ (t : ℕ). F (latest ∷ records_of t earlier)) (sym same.1))
  own_at task (inr apart) = rw apart.0 refl

  own_updated : (λ (task : ℕ). F (records_of task (latest ∷ earlier))) ≡ after
  own_updated = fun_ext (λ task. own_at task (eqb_tells latest.task task))

-- two views say the same
pub record Same (a b : View) : Type 0 where
  pub word : a.word ≡ b.word
  pub pair : a.pair ≡ b.pair
  pub part : a.part ≡ b.part
  pub hears : a.hears ≡ b.hears
  pub last : a.last ≡ b.last
  pub told : a.told ≡ b.told
  pub heard : a.heard ≡ b.heard

-- then they are one
pub view_path : (a b : View) → Same a b → a ≡ b
view_path a b same = λ i. record {
  word = same.word i;
  pair = same.pair i;
  part = same.part i;
  hears = same.hears i;
  last = same.last i;
  told = same.told i;
  heard = same.heard i;
}

-- what fits one fits the other
pub fits_path : (index : ℕ) (a b : View) → Same a b → Fits index b → Fits index a
fits_path index a b same fits =
    let P : View → Type 0 = λ v. Fits index v in subst P (sym (view_path a b same)) fits

pub view_is : (words : Words) (earlier : List Record) (index task : ℕ) (step : Step)
    (answer : Answer)
    → view words (record { task = task; step = step; answer = answer } ∷ earlier) index
    ≡ view_after words earlier index task step answer
view_is words earlier index task step answer =
    let latest : Record = record { task = task; step = step; answer = answer } in
    view_path (view words (latest ∷ earlier) index)
    (view_after words earlier index task step answer)
    (record {
      word = refl;
      pair = refl;
      part = own_updated (λ (own : List Record). part_at index (in_hand own)) latest earlier;
      hears = own_updated (λ (own : List Record). heard index own) latest earlier;
      last = refl;
      told = refl;
      heard = refl;
    })
