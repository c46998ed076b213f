-- The finds that tellings are on.
use Rattle.std.specs.Prelude.{◌≡◌, ◌<◌, ◌≤◌, ◌+◌, ◌++◌, ℕ, suc, Bool, true, false, List, [], ◌∷◌, IsNone, IsTrue, Some, length, reverse}
use Rattle.access_types.specs.Access.{Access}
use Rattle.access_types.specs.History.{InProgress}
use Rattle.executions.specs.execution.Run.{IsOfProgram, Run, task_setting}
use Rattle.executions.specs.execution.Execution.{Execution}
use Rattle.executions.specs.execution.Observed.{OutcomeAt, history_by, history_of, made_by}
use Rattle.setup_access.specs.Find.{Finds}
use Rattle.setup_access.specs.Found.{FinderTells}
use Rattle.setup_access.specs.Records.{MakesFlag}
use Rattle.setup_access.specs.Setting as checks
use Rattle.setup_access.specs.declared.outcome.Outcome.{Outcome}
use Rattle.setup_access.specs.declared.outcome.Outcome.TheVariants as outcomes
use Rattle.slot_table.specs.Hearings.{IsMet}
use Rattle.slot_table.specs.Records.{records_of}
use Rattle.slot_table.specs.declared.records.Record.{Record}
use Rattle.slot_table.specs.declared.step.Step.TheVariants.{TryConsume}
use Rattle.program_order.specs.Standing.{checks_of}

-- the outcome is that of a finder which took a watchpoint and told its setter
abbrev pub is_telling : Outcome → Bool
is_telling (outcomes.Told pair) = true
is_telling outcome = false

-- These records, the oldest first, are one find of this access, at this index under this word. They are
-- its loads up to the first word that matches the access, the try by which it took that word, and then
-- its loads of the pair until the setter had named itself, and the step by which it told its own ticket.
-- The outcome has both tickets.
pub record IsFind (s : checks.Setting) (a : Access) (index word : ℕ) (outcome : Outcome)
    (find : List Record) : Type 0 where
  pub unmasked : IsNone a.mask
  pub looked : List Record
  pub tried : List Record
  pub looks : Finds s a find (Some (record { index = index; word = word })) looked
  pub takes : MakesFlag s.task (TryConsume index word) (λ taken later. (taken ≡ true) × (later ≡ tried)) looked
  pub tells : FinderTells s a index tried outcome []

-- The telling is on a find of the access that was checked, which the access's task made with its last
-- records by then, and fell at the last of them. The access is one of the program, and it is in progress
-- from before the find to before its last record. What it took is the arming with this number, under
-- this word, of another task.
pub record IsOfFind {run : Run} {records : List Record} (list : Execution run records) (came : OutcomeAt) :
    Type 0 where
  pub later : List Record
  pub by_then : List Record
  pub split : records ≡ later ++ by_then
  pub at : length by_then ≡ suc came.at
  pub mine : (latest : Record) (earlier : List Record) → by_then ≡ latest ∷ earlier
      → latest.task ≡ came.access.task
  pub access_is : IsOfProgram run came.access
  pub find : List Record
  pub before : List Record
  pub own : records_of came.access.task by_then ≡ reverse find ++ before
  pub goes : (more earlier : List Record) → records ≡ more ++ earlier
      → length before ≤ made_by came.access.task earlier
      → made_by came.access.task earlier < length before + length find
      → InProgress (history_of list) came.access (length (history_by list earlier))
  pub index : ℕ
  pub number : ℕ
  pub setter : ℕ
  pub word : ℕ
  pub is_find : IsFind (checks_of (task_setting run came.access.task)) came.access index word came.outcome find
  pub met : IsMet by_then index number setter came.access.task word

-- so it is if the outcome is a telling
abbrev pub IfTelling : {run : Run} {records : List Record} → Execution run records → OutcomeAt → Type 0
IfTelling list came = IsTrue (is_telling came.outcome) → IsOfFind list came
