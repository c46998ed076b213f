-- The answers that setters give to takings: reports of two sides, and named discards.
use Rattle.std.specs.Prelude.{◌≡◌, ◌↔◌, ◌++◌, ℕ, suc, Bool, true, false, List, Option, Some, Contains, IsTrue, length}
use Rattle.access_types.specs.Access.{Access, Overlap}
use Rattle.access_types.specs.Ticket.{ticket_number}
use Rattle.executions.specs.execution.Run.{IsOfProgram, Run, task_setting}
use Rattle.executions.specs.execution.Execution.{Execution}
use Rattle.executions.specs.execution.Observed.{OutcomeAt}
use Rattle.setup_access.specs.Verdicts.{HitOutcome}
use Rattle.setup_access.specs.declared.outcome.Outcome.{Outcome}
use Rattle.setup_access.specs.declared.outcome.Outcome.TheVariants as outcomes
use Rattle.slot.specs.Pair.{Halves}
use Rattle.slot_table.specs.Hearings.{IsMet}
use Rattle.slot_table.specs.Meetings.{finders_told}
use Rattle.slot_table.specs.declared.records.Record.{Record}
use Rattle.value_filter.specs.declared.verdict.Reason.TheVariants.{Encoding}
use Rattle.watch_word.specs.Word.{word_of}
use Rattle.program_order.specs.Standing.{checks_of}

-- the outcome is a report of two sides, or a named discard
abbrev pub is_answer : Outcome → Bool
is_answer (outcomes.Report pair seen) = true
is_answer (outcomes.Dropped reason) = true
is_answer outcome = false

-- a report is of the pair that the setter heard
abbrev pub IsOfPair : Halves → Outcome → Type 0
IsOfPair both (outcomes.Report pair seen) = pair ≡ both
IsOfPair both outcome = Unit {0}

-- The outcome answers a taking. By then another task has taken the arming in the hand of the access's
-- task, which is under the access's word, for an access of its own, and has told; the setter heard the
-- pair of their tickets. The outcome is the verdict on the two, by the values that were loaded: it is
-- dropped for its encoding exactly where they share no byte.
pub record AnswersTaking {run : Run} {records : List Record} (list : Execution run records)
    (came : OutcomeAt) : Type 0 where
  pub finder : Access
  pub setter_is : IsOfProgram run came.access
  pub finder_is : IsOfProgram run finder
  pub pair : Halves
  pub setter_named : pair.setter ≡ ticket_number came.access
  pub finder_named : pair.finder ≡ ticket_number finder
  pub index : ℕ
  pub number : ℕ
  pub armed : came.arming ≡ Some (record { index = index; number = number })
  pub later : List Record
  pub by_then : List Record
  pub split : records ≡ later ++ by_then
  pub at : length by_then ≡ suc came.at
  pub met : IsMet by_then index number came.access.task finder.task
      (word_of run.rules.layout came.access)
  pub told : Contains (finders_told by_then) (record {
    index = index;
    number = number;
    setter = pair.setter;
    finder = pair.finder;
  })
  pub values : Option (ℕ × ℕ)
  pub verdict : HitOutcome (checks_of (task_setting run came.access.task)) came.access values pair
      came.outcome
  pub of_pair : IsOfPair pair came.outcome
  pub encoding : came.outcome ≡ outcomes.Dropped Encoding ↔ (¬ Overlap came.access finder)

-- so it is if it is an answer
abbrev pub IfAnswer : {run : Run} {records : List Record} → Execution run records → OutcomeAt → Type 0
IfAnswer list came = IsTrue (is_answer came.outcome) → AnswersTaking list came
