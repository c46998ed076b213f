-- The words that the tasks share, and what they are before the first step.
use Rattle.std.specs.Prelude.{◌+◌, ℕ, List, replicate}
use Rattle.slot.specs.Pair.{Halves, unnamed}

-- the words that the tasks share: a watch word and a pair word at each index, the cells of memory,
-- the lock words, and the clock
pub record Words : Type 0 where
  pub watch_words : List ℕ
  pub pair_words : List Halves
  pub cells : List ℕ
  pub locks : List ℕ
  pub clock : ℕ

-- no watchpoint is set up at any of the indices, two more than there are page slots; the cells hold
-- these values, the locks are free, and the clock stands at 0
abbrev pub words_at_first : ℕ → ℕ → List ℕ → Words
words_at_first page_slots locks cells = record {
  watch_words = replicate (page_slots + 2) 0;
  pair_words = replicate (page_slots + 2) unnamed;
  cells = cells;
  locks = replicate locks 0;
  clock = 0;
}

-- the words, and the clock put back to 0
abbrev pub but_clock : Words → Words
but_clock words = record words { clock = 0 }
