-- By what a machine says and what logs report.
use Rattle.setup_access.specs.Parts.{made}
use Rattle.litmus_step.proofs.KeptLemmas.{kept_more}
use Rattle.litmus_step.proofs.PointLemmas.{points_more}
use Rattle.litmus_step.proofs.laws.law_steps_are_kept.Goals as goal

pub returns-clause-none : goal.returns-clause-none
returns-clause-none c = c.law_one_more_is_noted.ensures.none

pub returns-clause-points : goal.returns-clause-points
returns-clause-points c =
    λ run records task old after step answer begins fell machines one other leads says begun fallen points stands there on.
    let latest = made task step answer in
    points_more c.law_one_more_is_noted.ensures.list c.law_one_more_is_noted.ensures.others run latest records one other machines old after
    (record { step = step; answer = answer; begins = begins; outcome = fell }) points stands there
    (c.law_a_machine_says_what_is_noted.ensures run latest records old begins fell other leads says begun fallen) on

pub returns-clause-more : goal.returns-clause-more
returns-clause-more c =
    λ run records task old step answer begins fell logs reports more_reports room log after report one other leads says begun fallen
    kept stands there in_log added.
    let latest = made task step answer in
    kept_more c.law_one_more_is_noted.ensures.list c.law_one_more_is_noted.ensures.others c.law_a_log_reports_what_the_list_does.ensures
    run latest records one other logs reports more_reports room log after
    (record { step = step; answer = answer; begins = begins; outcome = fell }) report kept stands there
    (c.law_a_machine_says_what_is_noted.ensures run latest records old begins fell other leads says begun fallen) in_log added
