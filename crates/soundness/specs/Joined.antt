-- The watch and the find whose accesses an answer is on.
use Rattle.std.specs.Prelude.{◌≡◌, ◌<◌, ◌≤◌, ◌+◌, ◌++◌, ℕ, false, List, [], Option, Some, Contains, IsTrue, length, reverse}
use Rattle.access_types.specs.Access.{Access}
use Rattle.access_types.specs.History.{InProgress}
use Rattle.access_types.specs.Ticket.{ticket_number}
use Rattle.executions.specs.execution.Answers.{AnswersTaking, is_answer}
use Rattle.executions.specs.execution.Run.{Run, task_setting}
use Rattle.executions.specs.execution.Execution.{Execution}
use Rattle.executions.specs.execution.Observed.{OutcomeAt, history_by, history_of, made_by, outcomes_of}
use Rattle.soundness.specs.Finds.{IsOfFind}
use Rattle.setup_access.specs.Found.{Hears, finder_half}
use Rattle.setup_access.specs.Records.{MakesDone, MakesFlag}
use Rattle.setup_access.specs.Setting as checks
use Rattle.setup_access.specs.Setup.{Inserts}
use Rattle.setup_access.specs.Values.{LoadsValue, both_values}
use Rattle.setup_access.specs.Verdicts.{HitOutcome}
use Rattle.setup_access.specs.declared.outcome.Outcome.{Outcome}
use Rattle.setup_access.specs.declared.outcome.Outcome.TheVariants as outcomes
use Rattle.slot.specs.Pair.{Halves}
use Rattle.slot_table.specs.Records.{records_of}
use Rattle.slot_table.specs.declared.records.Record.{Record}
use Rattle.slot_table.specs.declared.step.Step.TheVariants.{Consume, Name}
use Rattle.watch_word.specs.Word.{word_of}
use Rattle.program_order.specs.Standing.{checks_of}

-- These records, the oldest first, are one watch of this access that was hit. Its word was inserted at
-- this index and named by its ticket; these values are the access's in what its two loads answered, where
-- it has any; the word was consumed, hit by then, and this pair was heard. The outcome is the verdict.
pub record IsHitWatch (s : checks.Setting) (a : Access) (index : ℕ) (values : Option (ℕ × ℕ)) (pair : Halves)
    (outcome : Outcome) (watch : List Record) : Type 0 where
  pub armed : List Record
  pub named : List Record
  pub stalled : List Record
  pub loaded : List Record
  pub consumed : List Record
  pub inserts : Inserts s a (word_of s.rules.layout a) watch (Some index) armed
  pub names : MakesDone s.task (Name index (ticket_number a)) (λ later. later ≡ named) armed
  pub old : Option ℕ
  pub new : Option ℕ
  pub loads_old : LoadsValue s a named old stalled
  pub loads_new : LoadsValue s a stalled new loaded
  pub values_are : values ≡ both_values old new
  pub consumes : MakesFlag s.task (Consume index) (λ untouched later. (untouched ≡ false) × (later ≡ consumed)) loaded
  pub hears : Hears finder_half s.task index consumed pair []
  pub verdict : HitOutcome s a values pair outcome

-- The answer is the verdict on the watch of the arming that was taken, by its own two values and the pair
-- that it heard. The setter's task made it with its last records by then, and the access that was checked
-- is in progress from before the watch to before its last record.
pub record JudgesWatch {run : Run} {records : List Record} {list : Execution run records} {came : OutcomeAt}
    (answer : AnswersTaking list came) : Type 0 where
  pub watch : List Record
  pub before : List Record
  pub own : records_of came.access.task answer.by_then ≡ reverse watch ++ before
  pub is_watch : IsHitWatch (checks_of (task_setting run came.access.task)) came.access answer.index
      answer.values answer.pair came.outcome watch
  pub goes : (more earlier : List Record) → records ≡ more ++ earlier
      → length before ≤ made_by came.access.task earlier
      → made_by came.access.task earlier < length before + length watch
      → InProgress (history_of list) came.access (length (history_by list earlier))

-- The finder is the access for which that very arming was taken and told of: the outcome of its check
-- is this telling, on a find of this arming, and it told this pair before the answer fell.
pub record NamesFinder {run : Run} {records : List Record} {list : Execution run records} {came : OutcomeAt}
    (answer : AnswersTaking list came) : Type 0 where
  pub telling : OutcomeAt
  pub told : Contains (outcomes_of list) telling
  pub before : telling.at < came.at
  pub is : telling.outcome ≡ outcomes.Told answer.pair
  pub access : telling.access ≡ answer.finder
  pub find : IsOfFind list telling
  pub index : find.index ≡ answer.index
  pub number : find.number ≡ answer.number

-- The answer is the verdict on the two accesses of a taking: the one that its arming was made for, in
-- its watch, and the one that it was made for, in its find. At one moment both are in progress.
pub record AnswersBoth {run : Run} {records : List Record} (list : Execution run records) (came : OutcomeAt) :
    Type 0 where
  pub answer : AnswersTaking list came
  pub watch : JudgesWatch answer
  pub finder : NamesFinder answer
  pub moment : ℕ
  pub setter_goes : InProgress (history_of list) came.access moment
  pub finder_goes : InProgress (history_of list) answer.finder moment

-- so it is if the outcome is an answer
abbrev pub IfAnswersBoth : {run : Run} {records : List Record} → Execution run records → OutcomeAt → Type 0
IfAnswersBoth list came = IsTrue (is_answer came.outcome) → AnswersBoth list came
