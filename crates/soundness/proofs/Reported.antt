-- Reports are those of outcomes, in their order.
use Rattle.std.proofs.Common.{◌≡◌, ◌∙◌, ◌<◌, ◌∷◌, [], zero, suc, All, Contains, IsTrue, List, Option, None, Some, ap, arith, length, refl, subst}
use Rattle.std.specs.Prelude.{filter_map}
use Rattle.std.specs.List.{cons_option}
use Rattle.std.proofs.lemmas.List.Elements.{All-cons, All-head, All-nil, All-tail}
use Rattle.std.proofs.lemmas.Option.{same_Some}
use Rattle.access_types.specs.Ticket.{ticket_number}
use Rattle.access_types.specs.declared.report.Report.{Report}
use Rattle.access_types.specs.declared.report.Report.TheVariants as reports
use Rattle.executions.specs.execution.Reports.{reported, reports_of}
use Rattle.executions.specs.execution.Run.{Run}
use Rattle.executions.specs.execution.Execution.{Execution}
use Rattle.executions.specs.execution.Observed.{OutcomeAt, outcomes_of}
use Rattle.executions.specs.execution.TwoSides.{IfTwoSided, NamesBoth}
use Rattle.setup_access.specs.declared.outcome.Outcome.{Outcome}
use Rattle.setup_access.specs.declared.outcome.Outcome.TheVariants as outcomes
use Rattle.slot.specs.Pair.{Halves}
use Rattle.slot_table.specs.declared.records.Record.{Record}
use Rattle.soundness.specs.Watches.{IfVerdict, IsOfWatch, is_verdict}
use Rattle.soundness.specs.Origins.{IfUnknown, NamesChange}
use Rattle.soundness.specs.Reported.{IsOfOutcome, IsTrueReport}

module _ {run : Run} {records : List Record} (list : Execution run records) where
  abbrev report_of : OutcomeAt → Option Report
  report_of came = reported came.access came.outcome

  -- an outcome that is a report makes it a true one
  is_true : (came : OutcomeAt) (outcome : Outcome) (report : Report) → IfTwoSided list came outcome → IfUnknown list came outcome
      → (IsTrue (is_verdict outcome) → IsOfWatch list came)
      → reported came.access outcome ≡ Some report → IsTrueReport list report
  is_true came (outcomes.Report pair seen) report two one watched is =
      subst (λ (r : Report). IsTrueReport list r) (same_Some (reports.Two pair.setter pair.finder seen) report is)
      (record {
        setter = came.access;
        finder = two.answer.finder;
        setter_is = two.answer.setter_is;
        finder_is = two.answer.finder_is;
        setter_named = ap (λ (both : Halves). both.setter) two.is ∙ two.answer.setter_named;
        finder_named = ap (λ (both : Halves). both.finder) two.is ∙ two.answer.finder_named;
        race = two.race;
        unmarked = two.unmarked;
      })
  is_true came (outcomes.Unknown old new) report two one watched is =
      subst (λ (r : Report). IsTrueReport list r) (same_Some (reports.Unknown (ticket_number came.access) old new) report is)
      (record { access = came.access; access_is = (watched refl).access_is; named = refl; changed = one })
  is_true came outcomes.Nothing report two one watched is = absurd (cc)
  is_true came outcomes.Unencodable report two one watched is = absurd (cc)
  is_true came outcomes.Capacity report two one watched is = absurd (cc)
  is_true came outcomes.Lost report two one watched is = absurd (cc)
  is_true came (outcomes.Told pair) report two one watched is = absurd (cc)
  is_true came outcomes.Quiet report two one watched is = absurd (cc)
  is_true came (outcomes.Dropped reason) report two one watched is = absurd (cc)

  true_first : (found : Option Report) (others : List Report) → ((report : Report) → found ≡ Some report → IsTrueReport list report)
      → All (IsTrueReport list) others → All (IsTrueReport list) (cons_option found others)
  true_first None others here all = all
  true_first (Some report) others here all = All-cons (IsTrueReport list) report others (here report refl) all

  true_of : (outs : List OutcomeAt) → All (NamesBoth list) outs → All (NamesChange list) outs → All (IfVerdict list) outs → All (IsTrueReport list) (filter_map report_of outs)
  true_of [] two one watched = All-nil (IsTrueReport list)
  true_of (came ∷ outs) two one watched =
      true_first (report_of came) (filter_map report_of outs)
      (λ report is. is_true came came.outcome report (All-head (NamesBoth list) came outs two) (All-head (NamesChange list) came outs one)
      (All-head (IfVerdict list) came outs watched) is)
      (true_of outs (All-tail (NamesBoth list) came outs two) (All-tail (NamesChange list) came outs one) (All-tail (IfVerdict list) came outs watched))

  pub all_true : All (NamesBoth list) (outcomes_of list) → All (NamesChange list) (outcomes_of list) → All (IfVerdict list) (outcomes_of list)
      → All (IsTrueReport list) (reports_of list)
  all_true two one watched = true_of (outcomes_of list) two one watched

  -- each report is that of one of these outcomes
  record IsAmong (outs : List OutcomeAt) (report : Report) : Type 0 where
    came : OutcomeAt
    told : Contains outs came
    is : report_of came ≡ Some report

  one_later : (first : OutcomeAt) (outs : List OutcomeAt) (found : List Report) → All (IsAmong outs) found → All (IsAmong (first ∷ outs)) found
  one_later first outs found all place other below =
      let it = all place other below in record {
        came = it.came;
        told = (suc it.told.0, let inside : it.told.0 < length outs = it.told.1 in omega (arith, inside), it.told.2);
        is = it.is;
      }

  among_first : (first : OutcomeAt) (outs : List OutcomeAt) (found : Option Report) → report_of first ≡ found → (others : List Report)
      → All (IsAmong (first ∷ outs)) others → All (IsAmong (first ∷ outs)) (cons_option found others)
  among_first first outs None is others all = all
  among_first first outs (Some report) is others all =
      All-cons (IsAmong (first ∷ outs)) report others (record { came = first; told = (0, omega arith, refl); is = is }) all

  all_among : (outs : List OutcomeAt) → All (IsAmong outs) (filter_map report_of outs)
  all_among [] = All-nil (IsAmong [])
  all_among (first ∷ outs) =
      among_first first outs (report_of first) refl (filter_map report_of outs) (one_later first outs (filter_map report_of outs) (all_among outs))

  pub all_of_outcomes : All (IsOfOutcome list) (reports_of list)
  all_of_outcomes place other below =
      let it = all_among (outcomes_of list) place other below in record { came = it.came; told = it.told; is = it.is }

  -- and each outcome that is a report has it
  there_first : (report : Report) (found : Option Report) (others : List Report) → Contains others report → Contains (cons_option found others) report
  there_first report None others h = h
  there_first report (Some first) others h = (suc h.0, let inside : h.0 < length others = h.1 in omega (arith, inside), h.2)

  here_first : (report : Report) (found : Option Report) (others : List Report) → found ≡ Some report → Contains (cons_option found others) report
  here_first report None others is = absurd (cc)
  here_first report (Some first) others is = (0, omega arith, same_Some first report is)

  reported_in : (outs : List OutcomeAt) (came : OutcomeAt) (report : Report) → Contains outs came → report_of came ≡ Some report → Contains (filter_map report_of outs) report
  reported_in [] came report h is = let below : h.0 < 0 = h.1 in absurd (omega (arith, below))
  reported_in (first ∷ outs) came report (zero, below, same) is =
      here_first report (report_of first) (filter_map report_of outs) (ap report_of same ∙ is)
  reported_in (first ∷ outs) came report (suc k, below, same) is =
      there_first report (report_of first) (filter_map report_of outs)
      (reported_in outs came report (k, let b : suc k < suc (length outs) = below in omega (arith, b), same) is)

  pub each_reported : (came : OutcomeAt) (report : Report) → Contains (outcomes_of list) came → reported came.access came.outcome ≡ Some report
      → Contains (reports_of list) report
  each_reported came report h is = reported_in (outcomes_of list) came report h is
