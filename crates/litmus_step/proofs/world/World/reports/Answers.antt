-- They are the first of those that the list reports, and there is room for all.
use Rattle.std.proofs.Common.{vec_capacity}
use Rattle.litmus_step.proofs.KeptLemmas.{all_of_front, all_reported}
use Rattle.litmus_step.proofs.world.World.reports.Goals as goal
use Rattle.litmus_step.specs.Kept.{reports_kept}
use Rattle.soundness.specs.Reported.{IsTrueReport}
use Rattle.executions.specs.execution.Reports.{reports_of}

pub returns-clause-told : goal.returns-clause-told
returns-clause-told c = λ run records leads.
    let told = leads.kept.reports_are in
    rw c.as_slice.ensures.value (all_reported c.args.self.now.reports.items told.later (reports_of leads.list) (reports_kept run)
    (vec_capacity c.args.self.now.reports) told.reported told.full told.space
    (c.law_reports_have_room.ensures run records leads.list leads.can.limits))

pub returns-clause-true_reports : goal.returns-clause-true_reports
returns-clause-true_reports c = λ run records leads.
    let told = leads.kept.reports_are in
    rw c.as_slice.ensures.value (all_of_front (IsTrueReport leads.list) c.args.self.now.reports.items told.later (reports_of leads.list)
    told.reported (c.law_reports_are_true.ensures.all run records leads.list))

pub returns-clause-headline : goal.returns-clause-headline
returns-clause-headline c = λ run records leads. c.law_the_headline_holds.ensures run records leads.list
