-- The race that a report of two sides names.
use Rattle.std.specs.Prelude.{◌≡◌, List}
use Rattle.access_types.specs.Marked.{CountedAsMarked}
use Rattle.access_types.specs.Race.{TrueRace}
use Rattle.executions.specs.execution.Run.{Run}
use Rattle.executions.specs.execution.Execution.{Execution}
use Rattle.executions.specs.execution.Observed.{OutcomeAt, history_of}
use Rattle.soundness.specs.Joined.{AnswersBoth}
use Rattle.setup_access.specs.declared.outcome.Outcome.{Outcome}
use Rattle.setup_access.specs.declared.outcome.Outcome.TheVariants as outcomes
use Rattle.slot.specs.Pair.{Halves}
use Rattle.slot_table.specs.declared.records.Record.{Record}

-- The pair of tickets is that of the taking which the report answers: the setter heard it, and the finder
-- told it. It names the access whose watch this is, as the setter, and the one whose find it is, as the
-- finder. In the history that the list tells the two race, and the setter doesn't count as marked.
pub record NamesTheRace {run : Run} {records : List Record} (list : Execution run records) (came : OutcomeAt)
    (pair : Halves) : Type 0 where
  pub both : AnswersBoth list came
  pub is : pair ≡ both.answer.pair
  pub race : TrueRace run.rules.plain_writes_atomic (history_of list) came.access both.answer.finder
  pub unmarked : ¬ CountedAsMarked run.rules.plain_writes_atomic (history_of list) came.access

-- so it is if what came of a check is a report of two sides
abbrev pub IfTwoSided : {run : Run} {records : List Record} → Execution run records → OutcomeAt → Outcome
    → Type 0
IfTwoSided list came (outcomes.Report pair seen) = NamesTheRace list came pair
IfTwoSided list came outcome = Unit {0}

abbrev pub NamesRaceOfBoth : {run : Run} {records : List Record} → Execution run records → OutcomeAt → Type 0
NamesRaceOfBoth list came = IfTwoSided list came came.outcome
