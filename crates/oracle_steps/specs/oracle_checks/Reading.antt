-- What records are of the checks that a checker makes: all of them with its outcomes, not these, or stuck in a wait.
use Rattle.std.specs.Prelude.{◌≡◌, ◌++◌, ℕ, List}
use Rattle.slot_table.specs.Answer.{Answers}
use Rattle.slot_table.specs.declared.records.Record.{Record}
use Rattle.slot_table.specs.declared.step.Step.{Step}
use Rattle.setup_access.specs.Checker.{Doing}
use Rattle.setup_access.specs.Leads.{IsComplete, IsDone}
use Rattle.setup_access.specs.Setting.{Setting}
use Rattle.setup_access.specs.Waits.{IsStuckBy}
use Rattle.setup_access.specs.declared.begun.Begun.{Begun}
use Rattle.setup_access.specs.declared.checker.Checker.{Checker}
use Rattle.oracle_steps.specs.declared.oracle_checks.reading.Reading.{Reading}
use Rattle.oracle_steps.specs.declared.oracle_checks.reading.Reading.TheVariants.{Other, Stuck, Whole}

-- the record is this step of the task, with an answer of its kind
abbrev pub IsMade : Record → ℕ → Step → Type 0
IsMade made task step = (made.task ≡ task) × (made.step ≡ step) × Answers step made.answer

-- the records are all of what is done, with the checker's outcomes; or they aren't; or a beginning of them is stuck
abbrev pub IsReading : Setting → List Begun → Doing → ℕ → List Record → Checker → Reading → Type 0
IsReading s scopes doing asked records checker Whole = IsComplete s scopes doing asked records checker
IsReading s scopes doing asked records checker Other = ¬ IsDone s scopes doing asked records
IsReading s scopes doing asked records checker Stuck =
    (made rest : List Record) × (records ≡ made ++ rest) × IsStuckBy s.rules.turns made
