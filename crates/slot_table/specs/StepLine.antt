-- What each step answers and leaves of the words, and which words it names.
use Rattle.std.specs.Prelude.{◌+◌, ◌%◌, ◌^◌, ◌==◌, ◌<◌, ℕ, true, length, slice_index}
use Rattle.std.specs.Prelude.{slice_index_or, slice_set, if◌then◌else◌}
use Rattle.slot.specs.Line.{Line}
use Rattle.slot.specs.Pair.{Halves, clear_line, halves_line, name_line, tell_line, unnamed}
use Rattle.slot.specs.Slot.{consume_line, insert_line, load_line, remove_line, try_consume_line}
use Rattle.slot_table.specs.Words.{Words}
use Rattle.slot_table.specs.declared.step.Answer.{Answer}
use Rattle.slot_table.specs.declared.step.Answer.TheVariants as answers
use Rattle.slot_table.specs.declared.step.Step.{Step}
use Rattle.slot_table.specs.declared.step.Step.TheVariants.{Load, Insert, TryConsume, Consume}
use Rattle.slot_table.specs.declared.step.Step.TheVariants.{Remove, PairLoad, Name, Tell, Clear}
use Rattle.slot_table.specs.declared.step.Step.TheVariants.{CellLoad, CellExchange, LockTry}
use Rattle.slot_table.specs.declared.step.Step.TheVariants.{LockStore, Clock}

-- a line of the watch word at an index
abbrev pub watch_word_line : {A : Type 0} → (ℕ → Line A ℕ) → (A → Answer) → Words → ℕ
    → Line Answer Words
watch_word_line line answer words index =
    let word = line (slice_index words.watch_words index) in
    record {
      answer = answer word.answer;
      after = record words
          { watch_words = slice_set words.watch_words index word.after };
    }

-- a line of the pair word at an index
abbrev pub pair_word_line : {A : Type 0} → (Halves → Line A Halves) → (A → Answer) → Words → ℕ
    → Line Answer Words
pair_word_line line answer words index =
    let pair = line (slice_index_or words.pair_words index unnamed) in
    record {
      answer = answer pair.answer;
      after = record words
          { pair_words = slice_set words.pair_words index pair.after };
    }

-- the new word takes the cell if that holds the expected one; else the answer is what it holds
abbrev pub exchange_line : ℕ → ℕ → ℕ → Line Answer ℕ
exchange_line expected new old = record {
  answer = if old == expected then answers.Flag true else answers.Word old;
  after = if old == expected then new else old;
}

-- a line of a cell
abbrev pub cell_line : (ℕ → Line Answer ℕ) → Words → ℕ → Line Answer Words
cell_line line words cell =
    let value = line (slice_index words.cells cell) in
    record {
      answer = value.answer;
      after = record words
          { cells = slice_set words.cells cell value.after };
    }

-- a free lock becomes the task's: was it free?
abbrev pub lock_try_line : ℕ → ℕ → Line Answer ℕ
lock_try_line task old = record {
  answer = answers.Flag (old == 0);
  after = if old == 0 then 1 + task else old;
}

-- the lock becomes free
abbrev pub lock_store_line : ℕ → Line Answer ℕ
lock_store_line old = record { answer = answers.Done; after = 0 }

-- a line of a lock word
abbrev pub lock_line : (ℕ → Line Answer ℕ) → Words → ℕ → Line Answer Words
lock_line line words lock =
    let word = line (slice_index words.locks lock) in
    record {
      answer = word.answer;
      after = record words
          { locks = slice_set words.locks lock word.after };
    }

-- the answer is where the clock stood, and it goes on by one
abbrev pub clock_line : Words → Line Answer Words
clock_line words =
    record {
      answer = answers.Word words.clock;
      after = record words
          { clock = (words.clock + 1) % 2 ^ 64 };
    }

-- what a step answers, and the words after it
abbrev pub step_line : Words → Step → Line Answer Words
step_line words (Load index) = watch_word_line load_line answers.Word words index
step_line words (Insert index word) =
    watch_word_line (λ old. insert_line old word) answers.Flag words index
step_line words (TryConsume index word) =
    watch_word_line (λ old. try_consume_line old word) answers.Flag words index
step_line words (Consume index) = watch_word_line consume_line answers.Flag words index
step_line words (Remove index) = watch_word_line remove_line (λ _. answers.Done) words index
step_line words (PairLoad index) =
    pair_word_line halves_line (λ both. answers.Halves both.setter both.finder) words index
step_line words (Name index ticket) =
    pair_word_line (λ old. name_line old ticket) (λ _. answers.Done) words index
step_line words (Tell index ticket) =
    pair_word_line (λ old. tell_line old ticket) (λ _. answers.Done) words index
step_line words (Clear index) = pair_word_line clear_line (λ _. answers.Done) words index
step_line words (CellLoad cell) =
    cell_line (λ old. record { answer = answers.Word old; after = old }) words cell
step_line words (CellExchange cell expected new) = cell_line (exchange_line expected new) words cell
step_line words (LockTry lock task) = lock_line (lock_try_line task) words lock
step_line words (LockStore lock) = lock_line lock_store_line words lock
step_line words Clock = clock_line words

-- the step names one of these words; a watch word that it sets up or claims is above 1
abbrev pub Names : Words → Step → Type 0
Names words (Load index) = index < length words.watch_words
Names words (Insert index word) = (index < length words.watch_words) × (1 < word)
Names words (TryConsume index word) = (index < length words.watch_words) × (1 < word)
Names words (Consume index) = index < length words.watch_words
Names words (Remove index) = index < length words.watch_words
Names words (PairLoad index) = index < length words.pair_words
Names words (Name index ticket) = index < length words.pair_words
Names words (Tell index ticket) = index < length words.pair_words
Names words (Clear index) = index < length words.pair_words
Names words (CellLoad cell) = cell < length words.cells
Names words (CellExchange cell expected new) = cell < length words.cells
Names words (LockTry lock task) = lock < length words.locks
Names words (LockStore lock) = lock < length words.locks
Names words Clock = Unit {0}
