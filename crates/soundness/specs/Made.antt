-- What watchpoints are armed and taken for.
use Rattle.std.specs.Prelude.{◌≡◌, ℕ, List, [], ◌∷◌, length}
use Rattle.access_types.specs.Access.{Access}
use Rattle.access_types.specs.History.{InProgress}
use Rattle.executions.specs.execution.Run.{IsOfProgram, Run}
use Rattle.executions.specs.execution.Execution.{Execution}
use Rattle.executions.specs.execution.Observed.{history_by, history_of}
use Rattle.setup_access.specs.Hits.{Hits}
use Rattle.slot_table.specs.declared.records.Record.{Record}
use Rattle.slot_table.specs.declared.step.Step.{Step}
use Rattle.slot_table.specs.declared.step.Step.TheVariants.{Insert, TryConsume}
use Rattle.watch_word.specs.Word.{word_of}

-- the access is one of the program and of this task, and in progress after these records
pub record IsInHand {run : Run} {all : List Record} (list : Execution run all) (task : ℕ)
    (records : List Record) (a : Access) : Type 0 where
  pub mine : a.task ≡ task
  pub access_is : IsOfProgram run a
  pub goes : InProgress (history_of list) a (length (history_by list records))

-- Before its record a task has an access in progress for which it makes it: a word is inserted for the
-- access that it stands for, and one that matches an access is tried for it. All else is so anyway.
abbrev pub IsMadeFor : {run : Run} {all : List Record} → Execution run all → ℕ → List Record → Step → Type 0
IsMadeFor {run = run} list task earlier (Insert index word) =
    (a : Access) × IsInHand list task earlier a × (word ≡ word_of run.rules.layout a)
IsMadeFor {run = run} list task earlier (TryConsume index word) =
    (a : Access) × IsInHand list task earlier a × Hits run.rules.layout a word
IsMadeFor list task earlier step = Unit {0}

-- so is each of these records
abbrev pub EachIsMadeFor : {run : Run} {all : List Record} → Execution run all → List Record → Type 0
EachIsMadeFor list [] = Unit {0}
EachIsMadeFor list (latest ∷ earlier) =
    EachIsMadeFor list earlier × IsMadeFor list latest.task earlier latest.step
