-- A text spells at most one entry: the one round its first `x`.
use Rattle.std.proofs.Common.{◌≡◌, ◌≢◌, ◌<◌, ◌^◌, ◌++◌, ◌↔◌, ◌∙◌, ℕ, List, [], ◌∷◌, Bor}
use Rattle.std.proofs.Common.{Option, None, Some, Result, Ok, Err, true, false, ap, arith, get_or, length}
use Rattle.std.proofs.Common.{refl, sym, subst}
use Rattle.std.specs.Prelude.{MatchOption, ◌==◌}
use Rattle.std.specs.Int.{IsInRange}
use Rattle.std.specs.Char.{is_ascii_digit}
use Rattle.std.specs.List.{list_all, slice_split}
use Rattle.std.proofs.Math.Bool.{◌&&◌}
use Rattle.std.specs.Result.{result_ok}
use Rattle.std.specs.Str.{all_ascii_digits}
use Rattle.std.specs.Str.Parse.{ParsesUnsigned, digits_value}
use Rattle.std.proofs.lemmas.Bool.{ne_eqb}
use Rattle.std.proofs.lemmas.List.{length-append}
use Rattle.std.proofs.lemmas.List.Elements.{All-append, All-cons, All-from_get_or}
use Rattle.std.proofs.lemmas.List.Splits.{slice_split_at, slice_split_none}
use Rattle.std.proofs.lemmas.Str.Parse.{IsNumeralModel, not_in_digits, numerals_by_value, parse_digits}
use Rattle.std.proofs.lemmas.Str.Parse.{tells_all_ascii_digits}
use Rattle.std.proofs.lemmas.Str.Pattern.{IsSplitOnceResult, split_after, split_parts}
use Rattle.prepared_program.specs.step_schedule.Spelling.{SpellsEntry, SpellsNumber}
use Rattle.prepared_program.proofs.ListLemmas.{IsItem, NoComma}
use Rattle.prepared_program.specs.declared.step_schedule.schedule.Entry.{Entry}

own : IsNumeralModel (λ ds. all_ascii_digits ds ≡ true) (digits_value 10)
own = numerals_by_value _ tells_all_ascii_digits

-- digits spell the number that `parse` reads, and no other
pub number-read : {E : Type 0} (text : List ℕ) (read : Result ℕ E) → ParsesUnsigned 64 10 text read
    → all_ascii_digits text ≡ true
    → (n : ℕ) → SpellsNumber text n ↔ (result_ok read ≡ Some n)
number-read {E} text (Ok x) parses digits n =
    let is = parse_digits own {E = E} 64 text (Ok x) parses digits in (
      λ spelled. ap Some (is.1 ∙ spelled.value),
      λ e. let same : x ≡ n = cc in record {
        digits = digits;
        some = is.0.0;
        value = sym is.1 ∙ same;
        below = subst (λ v. v < 2 ^ 64) (sym is.1 ∙ same) is.0.1;
      },
    )
number-read {E} text (Err e) parses digits n =
    let not = parse_digits own {E = E} 64 text (Err e) parses digits in (
      λ spelled. absurd (not (spelled.some, subst (λ v. v < 2 ^ 64) (sym spelled.value) spelled.below)),
      λ e. absurd cc,
    )

-- two words for one test
pub digits-all : (text : List ℕ) → list_all is_ascii_digit text ≡ all_ascii_digits text
digits-all [] = refl
digits-all (byte ∷ text) = ap (λ rest. is_ascii_digit byte && rest) (digits-all text)

-- what isn't made of digits spells no number
pub number-unread : (text : List ℕ) → all_ascii_digits text ≡ false → (n : ℕ) → SpellsNumber text n → ⊥
number-unread text other n spelled = let digits = spelled.digits in cc

-- a byte that is no digit is none of a number's
lacks : (text : List ℕ) (byte : ℕ) → ¬ (IsInRange 48 57 byte) → (n : ℕ) → SpellsNumber text n → (i : ℕ)
    → i < length text → get_or text i 0 ≢ byte
lacks text byte other n spelled = not_in_digits own text byte spelled.digits other

-- an entry's parts are those round the first `x`
pub entry-parts : (text : List ℕ) (parts : Option (Bor (List ℕ) × Bor (List ℕ)))
    → IsSplitOnceResult 120 text parts → (entry : Entry) → SpellsEntry text entry
    → MatchOption parts ⊥ (λ x. SpellsNumber x.0.now entry.task × SpellsNumber x.1.now entry.steps)
entry-parts text None split entry spelled =
    split_after 120 text spelled.before spelled.after None split (omega arith) spelled.parts (lacks
    spelled.before 120 (λ h. omega arith) entry.task spelled.task)
entry-parts text (Some x) split entry spelled =
    let are = split_after 120 text spelled.before spelled.after (Some x) split (omega arith) spelled.parts
    (lacks spelled.before 120 (λ h. omega arith) entry.task spelled.task) in (
      subst (λ t. SpellsNumber t entry.task) (sym are.0) spelled.task,
      subst (λ t. SpellsNumber t entry.steps) (sym are.1) spelled.steps,
    )

-- two numbers round an `x` are an entry
pub entry-made : (text : List ℕ) (parts : Option (Bor (List ℕ) × Bor (List ℕ))) (x : Bor (List ℕ)
    × Bor (List ℕ)) → parts ≡ Some x → IsSplitOnceResult 120 text parts
    → (entry : Entry) → SpellsNumber x.0.now entry.task → SpellsNumber x.1.now entry.steps
    → SpellsEntry text entry
entry-made text None x is split entry task steps = absurd cc
entry-made text (Some y) x is split entry task steps =
    let same : y ≡ x = cc in
    let cut = split_parts 120 text (Some y) split (omega arith) in
    record {
      before = x.0.now;
      after = x.1.now;
      parts = subst (λ z. text ≡ z.0.now ++ 120 ∷ z.1.now) same cut.0;
      task = task;
      steps = steps;
    }

-- a text with no number before its first `x` is no entry
pub entry-no_task : (text : List ℕ) (parts : Option (Bor (List ℕ) × Bor (List ℕ))) (x : Bor (List ℕ)
    × Bor (List ℕ)) (task : Option ℕ) (read : Option Entry) → parts ≡ Some x
    → IsSplitOnceResult 120 text parts
    → ((n : ℕ) → SpellsNumber x.0.now n ↔ (task ≡ Some n)) → task ≡ None → read ≡ None → (entry : Entry)
    → SpellsEntry text entry ↔ (read ≡ Some entry)
entry-no_task text None x task read is split numbers none nothing entry = absurd cc
entry-no_task text (Some y) x task read is split numbers none nothing entry =
    let same : y ≡ x = cc in (
      λ spelled. let number = subst (λ z. SpellsNumber z.0.now entry.task) same ((entry-parts text (Some y)
          split entry spelled).0) in
          let some = (numbers entry.task).0 number in absurd cc,
      λ e. absurd cc,
    )

-- nor is one with none behind it
pub entry-no_steps : (text : List ℕ) (parts : Option (Bor (List ℕ) × Bor (List ℕ))) (x : Bor (List ℕ)
    × Bor (List ℕ)) (steps : Option ℕ) (read : Option Entry) → parts ≡ Some x
    → IsSplitOnceResult 120 text parts
    → ((n : ℕ) → SpellsNumber x.1.now n ↔ (steps ≡ Some n)) → steps ≡ None → read ≡ None
    → (entry : Entry) → SpellsEntry text entry ↔ (read ≡ Some entry)
entry-no_steps text None x steps read is split numbers none nothing entry = absurd cc
entry-no_steps text (Some y) x steps read is split numbers none nothing entry =
    let same : y ≡ x = cc in (
      λ spelled. let number = subst (λ z. SpellsNumber z.1.now entry.steps) same ((entry-parts text (Some y)
          split entry spelled).1) in
          let some = (numbers entry.steps).0 number in absurd cc,
      λ e. absurd cc,
    )

-- a text is cut at the `x` of its entry
entry-cut : (text : List ℕ) (entry : Entry) (spelled : SpellsEntry text entry)
    → slice_split (λ byte. byte == 120) text ≡ spelled.before ∷ spelled.after ∷ []
entry-cut text entry spelled =
    let P : ℕ → Type 0 = λ byte. (byte == 120) ≡ false in
    let no_x = λ (part : List ℕ) (n : ℕ) (number : SpellsNumber part n).
    All-from_get_or P part 0 (λ i within. ne_eqb (get_or part i 0) 120 (lacks part 120 (λ h. omega arith) n
    number i within)) in
    ap (slice_split (λ byte. byte == 120)) spelled.parts
    ∙ slice_split_at (λ byte. byte == 120) spelled.before 120 spelled.after (no_x spelled.before entry.task
    spelled.task) refl
    ∙ ap (λ rest. spelled.before ∷ rest) (slice_split_none (λ byte. byte == 120) spelled.after (no_x
    spelled.after entry.steps spelled.steps))

abbrev entry_of : ℕ → ℕ → Entry
entry_of task steps = record { task = task; steps = steps }

entries-same : (one other : Entry) → one.task ≡ other.task → one.steps ≡ other.steps → one ≡ other
entries-same one other task steps = ap (λ n. entry_of n one.steps) task ∙ ap (entry_of other.task) steps

-- it spells at most one entry
entry-one : (text : List ℕ) (one other : Entry) → SpellsEntry text one → SpellsEntry text other
    → one ≡ other
entry-one text one other s t =
    let cut : s.before ∷ s.after ∷ [] ≡ t.before ∷ t.after ∷ [] = sym (entry-cut text one s)
    ∙ entry-cut text other t in
    let before : s.before ≡ t.before = cc in
    let after : s.after ≡ t.after = cc in
    entries-same one other
    (sym s.task.value ∙ (ap (digits_value 10) before ∙ t.task.value))
    (sym s.steps.value ∙ (ap (digits_value 10) after ∙ t.steps.value))

-- two numbers round the first `x` are an entry, and no other
pub entry-read : (text : List ℕ) (parts : Option (Bor (List ℕ) × Bor (List ℕ))) (x : Bor (List ℕ)
    × Bor (List ℕ)) (entry : Entry) → parts ≡ Some x → IsSplitOnceResult 120 text parts
    → SpellsNumber x.0.now entry.task → SpellsNumber x.1.now entry.steps → (other : Entry)
    → SpellsEntry text other ↔ (Some entry ≡ Some other)
entry-read text parts x entry is split task steps other =
    let made = entry-made text parts x is split entry task steps in (
      λ spelled. ap Some (entry-one text entry other made spelled),
      λ e. let same : entry ≡ other = cc in subst (SpellsEntry text) same made,
    )

number-no_comma : (text : List ℕ) (n : ℕ) → SpellsNumber text n → NoComma text
number-no_comma text n spelled =
    All-from_get_or (λ byte. (byte == 44) ≡ false) text 0
    (λ i within. ne_eqb (get_or text i 0) 44 (lacks text 44 (λ h. omega arith) n spelled i within))

entry-no_comma : (text : List ℕ) (entry : Entry) → SpellsEntry text entry → NoComma text
entry-no_comma text entry spelled =
    let P : ℕ → Type 0 = λ byte. (byte == 44) ≡ false in
    subst NoComma (sym spelled.parts)
    (All-append P spelled.before (120 ∷ spelled.after) (number-no_comma spelled.before entry.task
    spelled.task)
    (All-cons P 120 spelled.after refl (number-no_comma spelled.after entry.steps spelled.steps)))

entry-some : (text : List ℕ) (entry : Entry) → SpellsEntry text entry → 0 < length text
entry-some text entry spelled =
    let long = spelled.task.some in
    omega (arith, ap length spelled.parts, length-append spelled.before (120 ∷ spelled.after))

pub entry-item : IsItem SpellsEntry
entry-item = record { no_comma = entry-no_comma; some = entry-some; one = entry-one }
