-- A schedule that is written is read back.
use Rattle.std.proofs.Common.{◌≡◌, ◌<◌, ◌^◌, ◌++◌, ◌∷◌, ◌∙◌, [], ℕ, All, List, ap, append_assoc, append-nil, codes, flat_map, map, refl, rules, sym, true}
use Rattle.std.specs.Fmt.{decimal}
use Rattle.std.specs.List.{join_with_byte}
use Rattle.std.specs.Str.{all_ascii_digits}
use Rattle.std.specs.Str.Parse.{digits_value}
use Rattle.std.proofs.lemmas.Fmt.{decimal_nonempty, digits_decimal, digits_value-decimal}
use Rattle.std.proofs.lemmas.List.Elements.{All-head, All-tail}
use Rattle.std.proofs.lemmas.Str.Parse.{IsNumeralModel, numerals_by_value, tells_all_ascii_digits}
use Rattle.search_text.specs.Schedules.{entry_text, later_text, schedule_text}
use Rattle.prepared_program.specs.Lists.{SpellEach}
use Rattle.prepared_program.specs.step_schedule.Spelling.{Spells, SpellsEntry, SpellsNumber}
use Rattle.prepared_program.specs.declared.step_schedule.schedule.Entry.{Entry}

own : IsNumeralModel (λ ds. all_ascii_digits ds ≡ true) (digits_value 10)
own = numerals_by_value _ tells_all_ascii_digits

number_back : (number : ℕ) → number < 2 ^ 64 → SpellsNumber (decimal number) number
number_back number below = record {
  digits = digits_decimal own number below;
  some = decimal_nonempty number below;
  value = digits_value-decimal own number below;
  below = below;
}

entry_back : (entry : Entry) → (entry.task < 2 ^ 64) × (entry.steps < 2 ^ 64) → SpellsEntry (entry_text entry) entry
entry_back entry below = record {
  before = decimal entry.task;
  after = decimal entry.steps;
  parts = simp append_assoc;
  task = number_back entry.task below.0;
  steps = number_back entry.steps below.1;
}

each_back : (schedule : List Entry) → All (λ entry. (entry.task < 2 ^ 64) × (entry.steps < 2 ^ 64)) schedule
    → SpellEach SpellsEntry (map entry_text schedule) schedule
each_back [] below = tt
each_back (entry ∷ schedule) below = (
  entry_back entry (All-head (λ entry. (entry.task < 2 ^ 64) × (entry.steps < 2 ^ 64)) entry schedule below),
  each_back schedule (All-tail (λ entry. (entry.task < 2 ^ 64) × (entry.steps < 2 ^ 64)) entry schedule below),
)

joined_back : (first : Entry) (more : List Entry)
    → entry_text first ++ flat_map later_text more ≡ join_with_byte 44 (entry_text first ∷ map entry_text more)
unfolding later_text
joined_back first [] = append-nil (entry_text first)
joined_back first (next ∷ more) = ap (λ text. entry_text first ++ 44 ∷ text) (joined_back next more)

pub schedule_back : (schedule : List Entry) → All (λ entry. (entry.task < 2 ^ 64) × (entry.steps < 2 ^ 64)) schedule
    → Spells (schedule_text schedule) schedule
schedule_back [] below = record { items = []; joined = refl; each = tt }
schedule_back (entry ∷ schedule) below = record {
  items = map entry_text (entry ∷ schedule);
  joined = joined_back entry schedule;
  each = each_back (entry ∷ schedule) below;
}
