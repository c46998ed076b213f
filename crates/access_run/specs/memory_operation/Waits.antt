-- How often a task has tried without success, by its records.
use Rattle.std.specs.Prelude.{◌≢◌, ◌+◌, ℕ, Bool, List, [], ◌∷◌, None, if◌then◌else◌}
use Rattle.setup_access.specs.Waits.{is_failed}
use Rattle.slot_table.specs.declared.records.Record.{Record}
use Rattle.slot_table.specs.declared.step.Answer.{Answer}
use Rattle.slot_table.specs.declared.step.Step.{Step}
use Rattle.slot_table.specs.declared.step.Step.TheVariants.{PairLoad}

-- a step of an operation or of a wait for a lock was refused: a failed try, where no half of a pair is waited for
abbrev pub is_refusal : Step → Answer → Bool
is_refusal = is_failed None

abbrev pub is_refused : Record → Bool
is_refused made = is_refusal made.step made.answer

-- how many failed tries a task has made at the end of these records, after so many before them: a
-- try fails if it is refused, and what isn't refused ends the wait
abbrev pub failed_from : ℕ → List Record → ℕ
failed_from tries [] = tries
failed_from tries (first ∷ later) = failed_from (if is_refused first then tries + 1 else 0) later

-- the same from the first record on
abbrev pub failed_tries : List Record → ℕ
failed_tries records = failed_from 0 records

-- the records load no pair, as those of an operation and of a wait for a lock
abbrev pub LoadNoPair : List Record → Type 0
LoadNoPair [] = Unit {0}
LoadNoPair (first ∷ later) = ((index : ℕ) → first.step ≢ PairLoad index) × LoadNoPair later
