-- The stamps that the clock gives an access.
use Rattle.std.specs.Prelude.{ℕ, List, [], ◌∷◌, Option, None, Some}
use Rattle.slot_table.specs.declared.records.Record.{Record}
use Rattle.slot_table.specs.declared.step.Answer.{Answer}
use Rattle.slot_table.specs.declared.step.Answer.TheVariants as answers

-- the clock answers a word: the stamp
abbrev pub stamp_in : Answer → Option ℕ
stamp_in (answers.Word stamp) = Some stamp
stamp_in (answers.Flag flag) = None
stamp_in (answers.Halves setter finder) = None
stamp_in answers.Done = None

-- the stamp that the first record answers
abbrev pub first_stamp : List Record → Option ℕ
first_stamp [] = None
first_stamp (first ∷ later) = stamp_in first.answer

-- the stamp that the last record answers
abbrev pub last_stamp : List Record → Option ℕ
last_stamp [] = None
last_stamp (last ∷ []) = stamp_in last.answer
last_stamp (first ∷ second ∷ later) = last_stamp (second ∷ later)
