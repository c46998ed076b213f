-- What a table of shared words is made for, and its words before the first step.
use Rattle.std.specs.Prelude.{ℕ, List}
use Rattle.slot_table.specs.Words.{Words, words_at_first}

-- what a table is made for: how many page slots, tasks and locks there are, and what the cells of
-- memory hold at first
pub record Given : Type 0 where
  pub page_slots : ℕ
  pub tasks : ℕ
  pub locks : ℕ
  pub cells : List ℕ

-- the words before the first step
abbrev pub first_words : Given → Words
first_words given = words_at_first given.page_slots given.locks given.cells
