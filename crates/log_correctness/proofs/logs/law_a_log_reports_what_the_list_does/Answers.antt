-- Each verdict is on a watch of the access that was checked, whose setter has named itself by its ticket.
use Rattle.std.proofs.Common.{◌∷◌}
use Rattle.log_correctness.proofs.Reporting.{one_report}
use Rattle.log_correctness.proofs.logs.law_a_log_reports_what_the_list_does.Goals as goal

pub returns : goal.returns
returns c = λ run latest earlier before noted one other notes is.
    one_report run latest earlier other one before noted notes is (c.law_verdicts_are_on_watches.ensures run (latest ∷ earlier) other)
    (c.law_outcomes_fall_where_they_are_settled.ensures run (latest ∷ earlier) other)
