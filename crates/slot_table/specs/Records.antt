-- Which lists of records, the latest first, are legal, and what words they leave.
use Rattle.std.specs.Prelude.{◌≡◌, ◌==◌, ℕ, List, [], ◌∷◌}
use Rattle.std.specs.List.{filter}
use Rattle.slot_table.specs.StepLine.{Names, step_line}
use Rattle.slot_table.specs.Words.{Words}
use Rattle.slot_table.specs.declared.records.Record.{Record}

-- what the steps of a list, the latest first, leave in the words
abbrev pub words_after : Words → List Record → Words
words_after first [] = first
words_after first (latest ∷ earlier) = (step_line (words_after first earlier) latest.step).after

-- the step names one of these words, and the answer is the one that they give
pub record Follows (words : Words) (latest : Record) : Type 0 where
  pub names : Names words latest.step
  pub answer : latest.answer ≡ (step_line words latest.step).answer

-- the list is legal: each record follows on the words that those before it leave
abbrev pub Legal : Words → List Record → Type 0
Legal first [] = Unit {0}
Legal first (latest ∷ earlier) = Legal first earlier × Follows (words_after first earlier) latest

-- the records of one task
abbrev pub records_of : ℕ → List Record → List Record
records_of task records = filter (λ made. made.task == task) records
