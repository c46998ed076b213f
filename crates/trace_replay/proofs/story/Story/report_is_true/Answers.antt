-- by the accesses that were found
use Rattle.std.proofs.Common.{sym, subst, true≢false}
use Rattle.report_text.specs.Standing.{accesses_of}
use Rattle.report_text.specs.Truth.{ReportIsTrue}
use Rattle.trace_replay.proofs.Naming.{change_of, none_named, race_of}
use Rattle.trace_replay.proofs.story.Story.report_is_true.Goals as goal

pub returns-in-Some-Some : goal.returns-in-Some-Some
returns-in-Some-Some c = λ all knows.
    let race = race_of c.named.result c.named-in-Two.result all c.in-Two.setter c.in-Two.finder c.in-Some-Some.setter c.in-Some-Some.finder
    (c.named.ensures (accesses_of all) knows.accesses) (c.named-in-Two.ensures (accesses_of all) knows.accesses)
    c.in-Some-Some.is-0 c.in-Some-Some.is-1 in (
      λ t. subst (ReportIsTrue all) (sym c.in-Two.is) (race.0 (c.race_by_stamps.ensures.0 t)),
      λ is. c.race_by_stamps.ensures.1 (race.1 (subst (ReportIsTrue all) c.in-Two.is is)),
    )

pub returns-in_default : goal.returns-in_default
returns-in_default c = λ all knows. (
  λ t. absurd (true≢false (sym t)),
  λ is. let two = subst (ReportIsTrue all) c.in-Two.is is in
      absurd (none_named c.named-in-Two.result all c.in-Two.finder (c.named-in-Two.ensures (accesses_of all) knows.accesses) c.in_default.is-1 (two.1, two.3)),
)

pub returns-in_default-2 : goal.returns-in_default-2
returns-in_default-2 c = λ all knows. (
  λ t. absurd (true≢false (sym t)),
  λ is. let two = subst (ReportIsTrue all) c.in-Two.is is in
      absurd (none_named c.named.result all c.in-Two.setter (c.named.ensures (accesses_of all) knows.accesses) c.in_default.is-0 (two.0, two.2)),
)

pub returns-in-Some : goal.returns-in-Some
returns-in-Some c = λ all knows.
    let change = change_of c.named-in-Unknown.result all c.in-Unknown.setter c.in-Unknown.old c.in-Unknown.new c.in-Some.setter
    (c.named-in-Unknown.ensures (accesses_of all) knows.accesses) c.in-Some.is in (
      λ t. subst (ReportIsTrue all) (sym c.in-Unknown.is) (change.0 (c.may_see.ensures.0 t)),
      λ is. c.may_see.ensures.1 (change.1 (subst (ReportIsTrue all) c.in-Unknown.is is)),
    )

pub returns-in-None : goal.returns-in-None
returns-in-None c = λ all knows. (
  λ t. absurd (true≢false (sym t)),
  λ is. let one = subst (ReportIsTrue all) c.in-Unknown.is is in
      absurd (none_named c.named-in-Unknown.result all c.in-Unknown.setter (c.named-in-Unknown.ensures (accesses_of all) knows.accesses) c.in-None.is (one.0, one.1)),
)
