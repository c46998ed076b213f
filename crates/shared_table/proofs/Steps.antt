-- Each kind of step as it acts on the row.
use Rattle.std.specs.Int.Bits.{bit_or, or_zero_r}
use Rattle.std.proofs.lemmas.Nat.{or_mod, or_shr}
use Rattle.std.proofs.Common.{◌*◌, ◌/◌, ◌%◌, ◌≡◌, ℕ, ◌<◌, Bool, true, false, cond, eqb, not, ◌||◌, List, length, get_or, set, refl, sym, ap, ◌∙◌, arith, ◌+◌, ◌^◌, subst, ◌-◌}
use Rattle.std.proofs.lemmas.List.{length-replicate}
use prog.Atomic.{either}
use Rattle.slot.specs.Line.{Line}
use Rattle.slot.specs.Pair.{Halves, clear_line, halves_line, name_line, tell_line, unnamed}
use Rattle.slot.specs.Slot.{consume_line, insert_line, load_line, remove_line, try_consume_line}
use Rattle.slot_table.specs.StepLine.{Names, pair_word_line, step_line, watch_word_line, cell_line, exchange_line, lock_line, lock_store_line, lock_try_line}
use Rattle.slot_table.specs.declared.step.Answer.{Answer}
use Rattle.slot_table.specs.declared.step.Answer.TheVariants as answers
use Rattle.slot_table.specs.declared.step.Step.{Step}
use Rattle.slot_table.specs.declared.step.Step.TheVariants.{Load, Insert, TryConsume, Consume}
use Rattle.slot_table.specs.declared.step.Step.TheVariants.{Remove, PairLoad, Name, Tell, Clear}
use Rattle.slot_table.specs.declared.step.Step.TheVariants.{CellLoad, CellExchange, LockTry, LockStore, Clock}
use Rattle.shared_table.specs.Given.{Given, first_words}
use Rattle.shared_table.specs.Row.{indices, words_in, halves_in, pairs_from, cells_from, clock_at, locks_from}
use Rattle.shared_table.proofs.Acts.{pair_after, pair_answers, watch_after, watch_answers, cell_after, cell_answers, clock_after, lock_after, lock_answers}
use Rattle.shared_table.proofs.Keeps.{ActsAs}

-- a compare-exchange writes where it found what was expected
pub either_is_cond : (b : Bool) (x y : ℕ) → either b x y ≡ cond b x y
either_is_cond true x y = refl
either_is_cond false x y = refl

watch_within : (given : Given) (index : ℕ) → index < length (first_words given).watch_words → index < indices given
watch_within given index names =
    let is : length (first_words given).watch_words ≡ indices given = length-replicate (indices given) 0 in omega arith

-- a step on a watch word
watch_acts : {A : Type 0} (given : Given) (step : Step) (line : ℕ → Line A ℕ) (tells : A → Answer) (index : ℕ)
    (change : ℕ → ℕ) (answer : ℕ → Answer)
    → index < length (first_words given).watch_words
    → ((row : List ℕ) → step_line (words_in given row) step ≡ watch_word_line line tells (words_in given row) index)
    → ((old : ℕ) → change old ≡ (line old).after) → ((old : ℕ) → answer old ≡ tells (line old).answer)
    → ActsAs given step index change answer
watch_acts given step line tells index change answer names is changes says =
    let here = watch_within given index names in
    record {
      within = omega arith;
      after = λ row counts fits.
          ap (λ (new : ℕ). words_in given (set row index new)) (changes (get_or row index 0))
          ∙ watch_after given row counts line tells index here
          ∙ sym (ap (λ (l : Line Answer _). l.after) (is row));
      answers = λ row counts fits.
          says (get_or row index 0)
          ∙ watch_answers given row counts line tells index here
          ∙ sym (ap (λ (l : Line Answer _). l.answer) (is row));
    }

pub pair_within : (given : Given) (index : ℕ) → index < length (first_words given).pair_words → index < indices given
pair_within given index names =
    let is : length (first_words given).pair_words ≡ indices given = length-replicate (indices given) unnamed in omega arith

-- a step on a pair word
pair_acts : {A : Type 0} (given : Given) (step : Step) (line : Halves → Line A Halves) (tells : A → Answer) (index place : ℕ)
    (change : ℕ → ℕ) (answer : ℕ → Answer)
    → place ≡ pairs_from given + index → index < length (first_words given).pair_words
    → ((row : List ℕ) → step_line (words_in given row) step ≡ pair_word_line line tells (words_in given row) index)
    → ((old : ℕ) → old < 2 ^ 64 → halves_in (change old) ≡ (line (halves_in old)).after)
    → ((old : ℕ) → answer old ≡ tells (line (halves_in old)).answer)
    → ActsAs given step place change answer
pair_acts given step line tells index place change answer at names is changes says =
    let here = pair_within given index names in
    record {
      within = omega arith;
      after = λ row counts fits.
          let new : ℕ = change (get_or row place 0) in
          pair_after given row counts line tells index place (sym at) here new (changes (get_or row place 0) fits)
          ∙ sym (ap (λ (l : Line Answer _). l.after) (is row));
      answers = λ row counts fits.
          says (get_or row place 0)
          ∙ pair_answers given row counts line tells index place (sym at) here (change (get_or row place 0)) (changes (get_or row place 0) fits)
          ∙ sym (ap (λ (l : Line Answer _). l.answer) (is row));
    }

abbrev halves_path : (a b : Halves) → a.setter ≡ b.setter → a.finder ≡ b.finder → a ≡ b
halves_path a b setter finder = λ i. record { setter = setter i; finder = finder i }

-- the upper half alone, or the lower
named : (old ticket : ℕ) → halves_in (bit_or old (ticket * 2 ^ 32)) ≡ (name_line (halves_in old) ticket).after
named old ticket =
    halves_path (halves_in (bit_or old (ticket * 2 ^ 32))) (name_line (halves_in old) ticket).after
    (or_shr old (ticket * 2 ^ 32) 32 ∙ ap (λ (t : ℕ). bit_or (old / 2 ^ 32) t) (omega arith))
    (or_mod old (ticket * 2 ^ 32) 32 ∙ ap (λ (t : ℕ). bit_or (old % 2 ^ 32) t) (omega arith) ∙ or_zero_r (old % 2 ^ 32))

told : (old ticket : ℕ) → ticket < 2 ^ 32 → halves_in (bit_or old ticket) ≡ (tell_line (halves_in old) ticket).after
told old ticket fits =
    halves_path (halves_in (bit_or old ticket)) (tell_line (halves_in old) ticket).after
    (or_shr old ticket 32 ∙ ap (λ (t : ℕ). bit_or (old / 2 ^ 32) t) (omega arith) ∙ or_zero_r (old / 2 ^ 32))
    (or_mod old ticket 32 ∙ ap (λ (t : ℕ). bit_or (old % 2 ^ 32) t) (omega arith))

module _ (given : Given) (index : ℕ) where
  pub loads : Names (first_words given) (Load index) → ActsAs given (Load index) index (λ n. n) answers.Word
  loads names =
      watch_acts given (Load index) load_line answers.Word index (λ n. n) answers.Word names (λ row. refl)
      (λ old. refl) (λ old. refl)

  pub inserts : (word : ℕ) → Names (first_words given) (Insert index word)
      → ActsAs given (Insert index word) index (λ n. either (eqb n 0) word n) (λ n. answers.Flag (eqb n 0))
  inserts word names =
      watch_acts given (Insert index word) (λ old. insert_line old word) answers.Flag index
      (λ n. either (eqb n 0) word n) (λ n. answers.Flag (eqb n 0)) names.0 (λ row. refl)
      (λ old. either_is_cond (eqb old 0) word old) (λ old. refl)

  pub tries : (word : ℕ) → Names (first_words given) (TryConsume index word)
      → ActsAs given (TryConsume index word) index (λ n. either (eqb n word) 1 n) (λ n. answers.Flag (eqb n word))
  tries word names =
      watch_acts given (TryConsume index word) (λ old. try_consume_line old word) answers.Flag index
      (λ n. either (eqb n word) 1 n) (λ n. answers.Flag (eqb n word)) names.0 (λ row. refl)
      (λ old. either_is_cond (eqb old word) 1 old) (λ old. refl)

  pub consumes : Names (first_words given) (Consume index)
      → ActsAs given (Consume index) index (λ n. 1) (λ n. answers.Flag (not (eqb n 0 || eqb n 1)))
  consumes names =
      watch_acts given (Consume index) consume_line answers.Flag index (λ n. 1)
      (λ n. answers.Flag (not (eqb n 0 || eqb n 1))) names (λ row. refl) (λ old. refl) (λ old. refl)

  pub removes : Names (first_words given) (Remove index) → ActsAs given (Remove index) index (λ n. 0) (λ n. answers.Done)
  removes names =
      watch_acts given (Remove index) remove_line (λ _. answers.Done) index (λ n. 0) (λ n. answers.Done) names
      (λ row. refl) (λ old. refl) (λ old. refl)

module _ (given : Given) (index place : ℕ) (at : place ≡ pairs_from given + index) where
  pub loads_pair : Names (first_words given) (PairLoad index)
      → ActsAs given (PairLoad index) place (λ n. n) (λ n. answers.Halves (halves_in n).setter (halves_in n).finder)
  loads_pair names =
      pair_acts given (PairLoad index) halves_line (λ both. answers.Halves both.setter both.finder) index place (λ n. n)
      (λ n. answers.Halves (halves_in n).setter (halves_in n).finder) at names (λ row. refl) (λ old fits. refl) (λ old. refl)

  pub names_setter : (ticket half : ℕ) → half ≡ ticket * 2 ^ 32 → Names (first_words given) (Name index ticket)
      → ActsAs given (Name index ticket) place (λ n. bit_or n half) (λ n. answers.Done)
  names_setter ticket half is names =
      pair_acts given (Name index ticket) (λ old. name_line old ticket) (λ _. answers.Done) index place
      (λ n. bit_or n half) (λ n. answers.Done) at names (λ row. refl)
      (λ old fits. ap (λ (k : ℕ). halves_in (bit_or old k)) is ∙ named old ticket) (λ old. refl)

  pub tells_setter : (ticket half : ℕ) → half ≡ ticket → ticket < 2 ^ 32 → Names (first_words given) (Tell index ticket)
      → ActsAs given (Tell index ticket) place (λ n. bit_or n half) (λ n. answers.Done)
  tells_setter ticket half is below names =
      pair_acts given (Tell index ticket) (λ old. tell_line old ticket) (λ _. answers.Done) index place
      (λ n. bit_or n half) (λ n. answers.Done) at names (λ row. refl)
      (λ old fits. ap (λ (k : ℕ). halves_in (bit_or old k)) is ∙ told old ticket below) (λ old. refl)

  pub clears : Names (first_words given) (Clear index) → ActsAs given (Clear index) place (λ n. 0) (λ n. answers.Done)
  clears names =
      pair_acts given (Clear index) clear_line (λ _. answers.Done) index place (λ n. 0) (λ n. answers.Done) at names
      (λ row. refl) (λ old fits. refl) (λ old. refl)

-- a ticket is found again in the upper half
pub ticket_of : (ticket half : ℕ) → half ≡ ticket * 2 ^ 32 → ticket ≡ half / 2 ^ 32
ticket_of ticket half is = omega arith

-- a step on a cell
cell_acts : (given : Given) (step : Step) (line : ℕ → Line Answer ℕ) (index place : ℕ) (change : ℕ → ℕ) (answer : ℕ → Answer)
    → place ≡ cells_from given + index → index < length given.cells
    → ((row : List ℕ) → step_line (words_in given row) step ≡ cell_line line (words_in given row) index)
    → ((old : ℕ) → change old ≡ (line old).after) → ((old : ℕ) → answer old ≡ (line old).answer)
    → ActsAs given step place change answer
cell_acts given step line index place change answer at here is changes says = record {
  within = omega arith;
  after = λ row counts fits.
      cell_after given row counts line index place (sym at) here (change (get_or row place 0)) (changes (get_or row place 0))
      ∙ sym (ap (λ (l : Line Answer _). l.after) (is row));
  answers = λ row counts fits.
      says (get_or row place 0)
      ∙ cell_answers given row counts line index place (sym at) here (change (get_or row place 0)) (changes (get_or row place 0))
      ∙ sym (ap (λ (l : Line Answer _). l.answer) (is row));
}

-- a step on a lock word
lock_acts : (given : Given) (step : Step) (line : ℕ → Line Answer ℕ) (index place : ℕ) (change : ℕ → ℕ) (answer : ℕ → Answer)
    → place ≡ locks_from given + index → index < length (first_words given).locks
    → ((row : List ℕ) → step_line (words_in given row) step ≡ lock_line line (words_in given row) index)
    → ((old : ℕ) → change old ≡ (line old).after) → ((old : ℕ) → answer old ≡ (line old).answer)
    → ActsAs given step place change answer
lock_acts given step line index place change answer at names is changes says =
    let counts_is : length (first_words given).locks ≡ given.locks = length-replicate given.locks 0 in
    let here : index < given.locks = omega arith in
    record {
      within = omega arith;
      after = λ row counts fits.
          lock_after given row counts line index place (sym at) here (change (get_or row place 0)) (changes (get_or row place 0))
          ∙ sym (ap (λ (l : Line Answer _). l.after) (is row));
      answers = λ row counts fits.
          says (get_or row place 0)
          ∙ lock_answers given row counts line index place (sym at) here (change (get_or row place 0)) (changes (get_or row place 0))
          ∙ sym (ap (λ (l : Line Answer _). l.answer) (is row));
    }

module _ (given : Given) (index place : ℕ) (at : place ≡ cells_from given + index) where
  pub loads_cell : Names (first_words given) (CellLoad index) → ActsAs given (CellLoad index) place (λ n. n) answers.Word
  loads_cell names =
      cell_acts given (CellLoad index) (λ old. record { answer = answers.Word old; after = old }) index place (λ n. n)
      answers.Word at names (λ row. refl) (λ old. refl) (λ old. refl)

  pub exchanges_cell : (expected new : ℕ) → Names (first_words given) (CellExchange index expected new)
      → ActsAs given (CellExchange index expected new) place (λ n. either (eqb n expected) new n)
      (λ n. cond (eqb n expected) (answers.Flag true) (answers.Word n))
  exchanges_cell expected new names =
      cell_acts given (CellExchange index expected new) (exchange_line expected new) index place
      (λ n. either (eqb n expected) new n) (λ n. cond (eqb n expected) (answers.Flag true) (answers.Word n)) at names
      (λ row. refl) (λ old. either_is_cond (eqb old expected) new old) (λ old. refl)

module _ (given : Given) (index place : ℕ) (at : place ≡ locks_from given + index) where
  pub tries_lock : (task holder : ℕ) → holder ≡ 1 + task → Names (first_words given) (LockTry index task)
      → ActsAs given (LockTry index task) place (λ n. either (eqb n 0) holder n) (λ n. answers.Flag (eqb n 0))
  tries_lock task holder is names =
      lock_acts given (LockTry index task) (lock_try_line task) index place (λ n. either (eqb n 0) holder n)
      (λ n. answers.Flag (eqb n 0)) at names (λ row. refl)
      (λ old. either_is_cond (eqb old 0) holder old ∙ ap (λ (k : ℕ). cond (eqb old 0) k old) is) (λ old. refl)

  pub stores_lock : Names (first_words given) (LockStore index) → ActsAs given (LockStore index) place (λ n. 0) (λ n. answers.Done)
  stores_lock names =
      lock_acts given (LockStore index) lock_store_line index place (λ n. 0) (λ n. answers.Done) at names (λ row. refl)
      (λ old. refl) (λ old. refl)

pub ticks : (given : Given) (place : ℕ) → place ≡ clock_at given → ActsAs given Clock place (λ n. (n + 1) % 2 ^ 64) answers.Word
ticks given place at =
    let P : ℕ → Type 0 = λ k. ActsAs given Clock k (λ n. (n + 1) % 2 ^ 64) answers.Word in
    subst P (sym at)
    (record {
      within = omega arith;
      after = λ row counts fits. clock_after given row counts ((get_or row (clock_at given) 0 + 1) % 2 ^ 64) refl;
      answers = λ row counts fits. refl;
    })

-- a task is found again in the word of a lock that it holds
pub holder_of : (task holder : ℕ) → holder ≡ 1 + task → task ≡ holder - 1
holder_of task holder is = omega arith
