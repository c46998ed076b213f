-- Where each word of a table stands in its one row, and which words a row stands for.
use Rattle.std.specs.Prelude.{◌+◌, ◌/◌, ◌%◌, ◌^◌, ℕ, List, length, map, take, drop, replicate, slice_index, ◌++◌, [], ◌∷◌}
use Rattle.slot.specs.Pair.{Halves}
use Rattle.slot_table.specs.Words.{Words}
use Rattle.shared_table.specs.Given.{Given}

-- all words stand in one row: the watch words, the pair words, the cells, the lock words, and the
-- clock
abbrev pub indices : Given → ℕ
indices given = given.page_slots + 2

abbrev pub pairs_from : Given → ℕ
pairs_from given = indices given

abbrev pub cells_from : Given → ℕ
cells_from given = pairs_from given + indices given

abbrev pub locks_from : Given → ℕ
locks_from given = cells_from given + length given.cells

abbrev pub clock_at : Given → ℕ
clock_at given = locks_from given + given.locks

abbrev pub row_length : Given → ℕ
row_length given = clock_at given + 1

-- both halves of a pair word: the setter's is the upper one
abbrev pub halves_in : ℕ → Halves
halves_in word = record { setter = word / 2 ^ 32; finder = word % 2 ^ 32 }

-- so many words of a row, from a place on
abbrev pub section : ℕ → ℕ → List ℕ → List ℕ
section from count row = take count (drop from row)

-- the words that stand in a row
abbrev pub words_in : Given → List ℕ → Words
words_in given row = record {
  watch_words = section 0 (indices given) row;
  pair_words = map halves_in (section (pairs_from given) (indices given) row);
  cells = section (cells_from given) (length given.cells) row;
  locks = section (locks_from given) given.locks row;
  clock = slice_index row (clock_at given);
}

-- the row before the first step
abbrev pub first_row : Given → List ℕ
first_row given =
    ((replicate (indices given + indices given) 0 ++ given.cells) ++ replicate given.locks 0)
    ++ 0 ∷ []
