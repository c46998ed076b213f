-- The headline of this project, in one definition.
use Rattle.std.specs.Prelude.{◌≢◌, ℕ, List, All, AllPairs}
use Rattle.litmus_semantics.specs.RunOfProgram.{RunOfProgram}
use Rattle.soundness.specs.Races.{NamesRaceOfBoth}
use Rattle.soundness.specs.Ended.{HasEndedSince}
use Rattle.soundness.specs.Reported.{IsTrueReport}
use Rattle.soundness.specs.Watched.{NamesWatched}
use Rattle.executions.specs.execution.Reports.{reports_of}
use Rattle.executions.specs.execution.Run.{Run, first_words}
use Rattle.executions.specs.execution.Execution.{AllHaveEnded, Execution}
use Rattle.executions.specs.execution.Observed.{history_of, outcomes_of}
use Rattle.soundness.specs.Totals.{Totals}
use Rattle.soundness.specs.Joined.{IfAnswersBoth}
use Rattle.soundness.specs.Made.{EachIsMadeFor}
use Rattle.soundness.specs.Takings.{HasOneAnswer}
use Rattle.slot_table.specs.Armings.{armings_taken}
use Rattle.slot_table.specs.Hearings.{IsArming, IsTaking}
use Rattle.slot_table.specs.Records.{words_after}
use Rattle.slot_table.specs.Roles.{Stands}
use Rattle.slot_table.specs.declared.records.Record.{Record}

-- An arming, which has this number at this index, was taken, and two accesses have ended since: one that was in
-- progress as its task armed, and one that was as its task took. So it is of the two that it was armed and taken for.
pub record BothHaveEnded {run : Run} {records : List Record} (list : Execution run records)
    (index number : ℕ) : Type 0 where
  pub setter : ℕ
  pub word : ℕ
  pub finder : ℕ
  pub taken_word : ℕ
  pub armed : HasEndedSince list (IsArming index number setter word)
  pub taken : HasEndedSince list (IsTaking index number finder taken_word)

-- What is true of each execution, of every program, setting and order of steps.
pub record Headline {run : Run} {records : List Record} (list : Execution run records) : Type 0 where
  -- the history that it tells is one of a run of the program
  pub history : RunOfProgram run.program run.places (history_of list)
  -- at each index the watch word tells who is its setter and who its finder
  pub roles : (index : ℕ) → Stands (words_after (first_words run) records) records index
  -- watchpoints are armed and taken for accesses that are in progress
  pub made_for : EachIsMadeFor list records
  -- each armed watchpoint is taken at most once
  pub taken_once : AllPairs ◌≢◌ (armings_taken records)
  -- each taking whose two accesses ended gave one report or one named discard
  pub one_answer : (index number : ℕ) → BothHaveEnded list index number
      → HasOneAnswer list index number
  -- which is the verdict on the two: on the watch of the one and the find of the other
  pub verdicts : All (IfAnswersBoth list) (outcomes_of list)
  -- every report of two sides names, by the ticket that the finder told, a true race of these two
  pub true_races : All (NamesRaceOfBoth list) (outcomes_of list)
  -- one of unknown origin names bytes that changed under its watch
  pub origins_changed : All (NamesWatched list) (outcomes_of list)
  -- the reports are these, by the tickets of accesses of the program
  pub reports : All (IsTrueReport list) (reports_of list)
  -- once all tasks have ended the totals agree
  pub totals : AllHaveEnded run records → Totals records (outcomes_of list)
