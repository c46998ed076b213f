-- The watches that verdicts are on.
use Rattle.std.specs.Prelude.{◌≡◌, ◌<◌, ◌≤◌, ◌+◌, ◌++◌, ℕ, suc, Bool, true, false, List, [], ◌∷◌, IsTrue, Some, length, reverse}
use Rattle.access_types.specs.Access.{Access}
use Rattle.access_types.specs.History.{InProgress}
use Rattle.executions.specs.execution.Run.{IsOfProgram, Run, task_setting}
use Rattle.executions.specs.execution.Execution.{Execution}
use Rattle.executions.specs.execution.Observed.{OutcomeAt, history_by, history_of, made_by}
use Rattle.setup_access.specs.Setting as checks
use Rattle.setup_access.specs.Setup.{SetsUp}
use Rattle.setup_access.specs.declared.outcome.Outcome.{Outcome}
use Rattle.setup_access.specs.declared.outcome.Outcome.TheVariants as outcomes
use Rattle.slot_table.specs.Records.{records_of}
use Rattle.slot_table.specs.declared.records.Record.{Record}
use Rattle.watch_word.specs.Word.{word_of}
use Rattle.program_order.specs.Standing.{checks_of}

-- the outcome is a verdict on a watchpoint that was set up
abbrev pub is_verdict : Outcome → Bool
is_verdict outcomes.Quiet = true
is_verdict (outcomes.Unknown old new) = true
is_verdict (outcomes.Report pair seen) = true
is_verdict (outcomes.Dropped reason) = true
is_verdict outcome = false

-- These records, the oldest first, are one watch of this access. It is set up under the access's word and
-- named by its ticket. Its two values are the access's in the words that its two loads answered, where it
-- has any; after them it is consumed. The outcome is the verdict on it, by these values and by the pair
-- that was heard where it was hit.
pub record IsWatch (s : checks.Setting) (a : Access) (outcome : Outcome) (watch : List Record) : Type 0 where
  pub index : ℕ
  pub sets_up : SetsUp s a (word_of s.rules.layout a) watch
      (Some (record { index = index; outcome = outcome })) []

-- The verdict is on a watch of the access that was checked, which the access's task made with its last
-- records by then, and fell at the last of them. The access is one of the program, and it is in progress
-- from before the watch to before its last record.
pub record IsOfWatch {run : Run} {records : List Record} (list : Execution run records) (came : OutcomeAt) :
    Type 0 where
  pub later : List Record
  pub by_then : List Record
  pub split : records ≡ later ++ by_then
  pub at : length by_then ≡ suc came.at
  pub mine : (latest : Record) (earlier : List Record) → by_then ≡ latest ∷ earlier
      → latest.task ≡ came.access.task
  pub access_is : IsOfProgram run came.access
  pub watch : List Record
  pub before : List Record
  pub own : records_of came.access.task by_then ≡ reverse watch ++ before
  pub is_watch : IsWatch (checks_of (task_setting run came.access.task)) came.access came.outcome watch
  pub goes : (more earlier : List Record) → records ≡ more ++ earlier
      → length before ≤ made_by came.access.task earlier
      → made_by came.access.task earlier < length before + length watch
      → InProgress (history_of list) came.access (length (history_by list earlier))

-- so it is if the outcome is a verdict
abbrev pub IfVerdict : {run : Run} {records : List Record} → Execution run records → OutcomeAt → Type 0
IfVerdict list came = IsTrue (is_verdict came.outcome) → IsOfWatch list came
