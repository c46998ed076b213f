-- A report is what came of a check, of two sides or of unknown origin.
use Rattle.soundness.proofs.Reported.{all_of_outcomes, all_true, each_reported}
use Rattle.soundness.proofs.histories.law_reports_are_true.Goals as goal

pub returns-clause-all : goal.returns-clause-all
returns-clause-all c = λ run records list.
    all_true list (c.law_reports_name_two_sides.ensures run records list) (c.law_unknown_origins_changed.ensures.changed run records list)
    (c.law_verdicts_are_on_watches.ensures run records list)

pub returns-clause-outcomes : goal.returns-clause-outcomes
returns-clause-outcomes c = λ run records list. all_of_outcomes list

pub returns-clause-reports : goal.returns-clause-reports
returns-clause-reports c = λ run records list. each_reported list
