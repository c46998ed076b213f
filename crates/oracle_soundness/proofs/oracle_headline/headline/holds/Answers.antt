-- Each test answers for one part of the headline.
use Rattle.std.proofs.Common.{◌≢◌, ◌∙◌, All, AllPairs, List, ap, subst}
use Rattle.slot_table.specs.Armings.{armings_taken}
use Rattle.slot_table.specs.Meetings.{Meeting, setters_heard}
use Rattle.slot_table.specs.declared.records.Record.{Record}
use Rattle.oracle_soundness.specs.oracle_headline.Tried.{IsAnswered, TakingsAnswered, account_of}
use Rattle.oracle_soundness.proofs.oracle_headline.headline.holds.Goals as goal

pub returns-clause-headline : goal.returns-clause-headline
returns-clause-headline c = λ told_so. record {
  taken_once = subst (λ (r : List Record). AllPairs ◌≢◌ (armings_taken r)) c.as_slice.ensures.value
      (c.in_ok-taken_once.ensures c.if-not-branch.false);
  reports = c.in_ok-all_true.ensures c.if-not-branch-2.false;
  one_answer = subst (λ (r : List Record). TakingsAnswered (account_of c.args.told.now) r) c.as_slice-2.ensures.value
      (c.takings_answered.ensures c.if-not-takings_answered.false);
  totals = c.ends_agreed.ensures c.if-not-ends_agreed.false;
}

pub returns-clause-heard : goal.returns-clause-heard
returns-clause-heard c = λ told_so. subst (λ (l : List Meeting). All (IsAnswered (account_of c.args.told.now)) l)
    (c.as_slice-4.ensures.value ∙ (c.in_ok-met.ensures ∙ ap (λ (r : List Record). setters_heard r) c.as_slice-3.ensures.value))
    (c.all_answered.ensures told_so)
