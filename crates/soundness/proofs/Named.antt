-- The finder that a report of two sides names is the access of the find that it answers to.
use Rattle.std.proofs.Common.{◌≡◌, ◌∙◌, All, IsTrue, List, Some, ap, refl, subst, sym}
use Rattle.std.specs.FinMap as fin
use Rattle.access_types.specs.Access.{Access}
use Rattle.access_types.specs.Race.{TrueRace}
use Rattle.access_types.specs.Ticket.{ticket_number}
use Rattle.soundness.specs.Races.{IfTwoSided, NamesRaceOfBoth, NamesTheRace}
use Rattle.executions.specs.execution.Answers.{IsOfPair, is_answer}
use Rattle.executions.specs.execution.Run.{Run}
use Rattle.executions.specs.execution.Execution.{Execution}
use Rattle.executions.specs.execution.Observed.{OutcomeAt, history_of, outcomes_of}
use Rattle.executions.specs.execution.TwoSides as sides
use Rattle.soundness.specs.Joined.{AnswersBoth, IfAnswersBoth}
use Rattle.setup_access.specs.declared.outcome.Outcome.{Outcome}
use Rattle.setup_access.specs.declared.outcome.Outcome.TheVariants as outcomes
use Rattle.slot.specs.Pair.{Halves}
use Rattle.slot_table.specs.declared.records.Record.{Record}
use Rattle.slot_table.proofs.Moves.{some_same}

module _ (run : Run) (records : List Record) (list : Execution run records) where
  names_both : (came : OutcomeAt) (pair : Halves) → ((heard : Halves) → IsOfPair heard came.outcome → pair ≡ heard) → AnswersBoth list came → sides.NamesTwoSides list came pair → NamesTheRace list came pair
  names_both came pair of both two =
      let is : pair ≡ both.answer.pair = of both.answer.pair both.answer.of_pair in
      let its : ticket_number both.answer.finder ≡ ticket_number two.answer.finder =
      sym both.answer.finder_named ∙ (ap (λ (p : Halves). p.finder) (sym is ∙ two.is) ∙ two.answer.finder_named) in
      let one : fin.get run.sites (ticket_number both.answer.finder) ≡ Some both.answer.finder =
      (list.sites (ticket_number both.answer.finder) both.answer.finder).1 (refl, both.answer.finder_is) in
      let other : fin.get run.sites (ticket_number both.answer.finder) ≡ Some two.answer.finder =
      (list.sites (ticket_number both.answer.finder) two.answer.finder).1 (its, two.answer.finder_is) in
      let same : two.answer.finder ≡ both.answer.finder = some_same (sym other ∙ one) in
      record {
        both = both;
        is = is;
        race = subst (λ (f : Access). TrueRace run.rules.plain_writes_atomic (history_of list) came.access f) same two.race;
        unmarked = two.unmarked;
      }

  by_outcome : (came : OutcomeAt) (outcome : Outcome) → came.outcome ≡ outcome → (IsTrue (is_answer outcome) → AnswersBoth list came)
      → sides.IfTwoSided list came outcome → IfTwoSided list came outcome
  by_outcome came (outcomes.Report pair seen) is both two =
      names_both came pair (λ heard of. subst (λ (o : Outcome). IsOfPair heard o) is of) (both refl) two
  by_outcome came outcome is both two = tt

  pub all_race : All (IfAnswersBoth list) (outcomes_of list) → All (sides.NamesBoth list) (outcomes_of list) → All (NamesRaceOfBoth list) (outcomes_of list)
  all_race both two = λ place other below. by_outcome _ _ refl (both place other below) (two place other below)
