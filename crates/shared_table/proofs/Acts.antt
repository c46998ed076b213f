-- Each kind of step acts on one word of the row.
use Rattle.slot.specs.Pair.{Halves, unnamed}
use Rattle.std.proofs.Common.{◌≡◌, ℕ, ◌<◌, List, length, map, set, get_or, ap, ◌∙◌, arith, ◌+◌, sym, ◌%◌, ◌^◌}
use Rattle.std.proofs.lemmas.List.{get_or-set_other, map-set, get_or-set_same}
use Rattle.std.proofs.Math.ListN.{get_or-map}
use Rattle.slot.specs.Line.{Line}
use Rattle.slot_table.specs.StepLine.{pair_word_line, watch_word_line, cell_line, clock_line, lock_line}
use Rattle.slot_table.specs.Words.{Words}
use Rattle.slot_table.specs.declared.step.Answer.{Answer}
use Rattle.shared_table.specs.Given.{Given}
use Rattle.shared_table.specs.Row.{cells_from, clock_at, halves_in, indices, locks_from, pairs_from, row_length, section, words_in}
use Rattle.shared_table.proofs.Sections.{section_at, section_before, section_here, section_past}

-- one list of words in place of another
abbrev pub words_path : (a b : Words) → a.watch_words ≡ b.watch_words → a.pair_words ≡ b.pair_words → a.cells ≡ b.cells → a.locks ≡ b.locks → a.clock ≡ b.clock → a ≡ b
words_path a b watch pair cell lock clock = λ i. record { watch_words = watch i; pair_words = pair i; cells = cell i; locks = lock i; clock = clock i }

module _ (given : Given) (row : List ℕ) (counts : length row ≡ row_length given) where
  -- a line of a watch word acts on the word at its index
  module _ {A : Type 0} (line : ℕ → Line A ℕ) (answer : A → Answer) (index : ℕ) (within : index < indices given) where
    abbrev watch_at : get_or row index 0 ≡ get_or (section 0 (indices given) row) index 0
    watch_at = section_at 0 (indices given) row index index (omega arith) within

    pub watch_after : words_in given (set row index (line (get_or row index 0)).after) ≡ (watch_word_line line answer (words_in given row) index).after
    watch_after =
        let new : ℕ = (line (get_or row index 0)).after in
        words_path (words_in given (set row index new)) (watch_word_line line answer (words_in given row) index).after
        (section_here 0 (indices given) row index index new (omega arith) within
        ∙ ap (λ (old : ℕ). set (section 0 (indices given) row) index (line old).after) watch_at)
        (ap (λ (words : List ℕ). map halves_in words) (section_before (pairs_from given) (indices given) row index new within))
        (section_before (cells_from given) (length given.cells) row index new (omega arith))
        (section_before (locks_from given) given.locks row index new (omega arith))
        (get_or-set_other row index (clock_at given) new 0 (λ same. omega arith))

    pub watch_answers : answer (line (get_or row index 0)).answer ≡ (watch_word_line line answer (words_in given row) index).answer
    watch_answers = ap (λ (old : ℕ). answer (line old).answer) watch_at

  -- a line of a pair word acts on the word at its place
  module _ {A : Type 0} (line : Halves → Line A Halves) (answer : A → Answer) (index place : ℕ)
      (is : pairs_from given + index ≡ place) (within : index < indices given) (new : ℕ)
      (new_is : halves_in new ≡ (line (halves_in (get_or row place 0))).after) where
    abbrev pairs : List ℕ
    pairs = section (pairs_from given) (indices given) row

    pair_at : halves_in (get_or row place 0) ≡ get_or (map halves_in pairs) index unnamed
    pair_at = ap halves_in (section_at (pairs_from given) (indices given) row index place is within) ∙ sym (get_or-map halves_in pairs index 0)

    pub pair_after : words_in given (set row place new) ≡ (pair_word_line line answer (words_in given row) index).after
    pair_after =
        words_path (words_in given (set row place new)) (pair_word_line line answer (words_in given row) index).after
        (section_past 0 (indices given) row place new (omega arith))
        (ap (λ (words : List ℕ). map halves_in words) (section_here (pairs_from given) (indices given) row index place new is within)
        ∙ map-set halves_in pairs index new
        ∙ ap (λ (halves : Halves). set (map halves_in pairs) index halves) new_is
        ∙ ap (λ (old : Halves). set (map halves_in pairs) index (line old).after) pair_at)
        (section_before (cells_from given) (length given.cells) row place new (omega arith))
        (section_before (locks_from given) given.locks row place new (omega arith))
        (get_or-set_other row place (clock_at given) new 0 (λ same. omega arith))

    pub pair_answers : answer (line (halves_in (get_or row place 0))).answer ≡ (pair_word_line line answer (words_in given row) index).answer
    pair_answers = ap (λ (old : Halves). answer (line old).answer) pair_at

  -- a line of a cell acts on the word at its place
  module _ (line : ℕ → Line Answer ℕ) (index place : ℕ) (is : cells_from given + index ≡ place) (within : index < length given.cells) (new : ℕ)
      (new_is : new ≡ (line (get_or row place 0)).after) where
    cell_at : get_or row place 0 ≡ get_or (section (cells_from given) (length given.cells) row) index 0
    cell_at = section_at (cells_from given) (length given.cells) row index place is within

    pub cell_after : words_in given (set row place new) ≡ (cell_line line (words_in given row) index).after
    cell_after =
        words_path (words_in given (set row place new)) (cell_line line (words_in given row) index).after
        (section_past 0 (indices given) row place new (omega arith))
        (ap (λ (words : List ℕ). map halves_in words) (section_past (pairs_from given) (indices given) row place new (omega arith)))
        (section_here (cells_from given) (length given.cells) row index place new is within
        ∙ ap (λ (k : ℕ). set (section (cells_from given) (length given.cells) row) index k)
        (new_is ∙ ap (λ (old : ℕ). (line old).after) cell_at))
        (section_before (locks_from given) given.locks row place new (omega arith))
        (get_or-set_other row place (clock_at given) new 0 (λ same. omega arith))

    pub cell_answers : (line (get_or row place 0)).answer ≡ (cell_line line (words_in given row) index).answer
    cell_answers = ap (λ (old : ℕ). (line old).answer) cell_at

  -- a line of a lock word acts on the word at its place
  module _ (line : ℕ → Line Answer ℕ) (index place : ℕ) (is : locks_from given + index ≡ place) (within : index < given.locks) (new : ℕ)
      (new_is : new ≡ (line (get_or row place 0)).after) where
    lock_at : get_or row place 0 ≡ get_or (section (locks_from given) given.locks row) index 0
    lock_at = section_at (locks_from given) given.locks row index place is within

    pub lock_after : words_in given (set row place new) ≡ (lock_line line (words_in given row) index).after
    lock_after =
        words_path (words_in given (set row place new)) (lock_line line (words_in given row) index).after
        (section_past 0 (indices given) row place new (omega arith))
        (ap (λ (words : List ℕ). map halves_in words) (section_past (pairs_from given) (indices given) row place new (omega arith)))
        (section_past (cells_from given) (length given.cells) row place new (omega arith))
        (section_here (locks_from given) given.locks row index place new is within
        ∙ ap (λ (k : ℕ). set (section (locks_from given) given.locks row) index k)
        (new_is ∙ ap (λ (old : ℕ). (line old).after) lock_at))
        (get_or-set_other row place (clock_at given) new 0 (λ same. omega arith))

    pub lock_answers : (line (get_or row place 0)).answer ≡ (lock_line line (words_in given row) index).answer
    lock_answers = ap (λ (old : ℕ). (line old).answer) lock_at

  -- the clock is the last word
  pub clock_after : (new : ℕ) → new ≡ (get_or row (clock_at given) 0 + 1) % 2 ^ 64
      → words_in given (set row (clock_at given) new) ≡ (clock_line (words_in given row)).after
  clock_after new new_is =
      words_path (words_in given (set row (clock_at given) new)) (clock_line (words_in given row)).after
      (section_past 0 (indices given) row (clock_at given) new (omega arith))
      (ap (λ (words : List ℕ). map halves_in words) (section_past (pairs_from given) (indices given) row (clock_at given) new (omega arith)))
      (section_past (cells_from given) (length given.cells) row (clock_at given) new (omega arith))
      (section_past (locks_from given) given.locks row (clock_at given) new (omega arith))
      (get_or-set_same row (clock_at given) new 0 (omega arith) ∙ new_is)
