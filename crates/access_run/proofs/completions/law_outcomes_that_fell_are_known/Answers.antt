-- The records can be completed, and the completion tells what has fallen from what falls later.
use Rattle.std.proofs.Common.{◌∙◌, sym}
use Rattle.setup_access.proofs.FallenUnique.{parted}
use Rattle.access_run.proofs.CheckEnds.{check_ends}
use Rattle.access_run.proofs.completions.law_outcomes_that_fell_are_known.Goals as goal

pub returns : goal.returns
returns c = λ s scopes doing asked records checker first second leads one other.
    let own = check_ends s scopes doing asked records checker leads in
    let before = one.first own.0 own.1 own.2 in
    let too = other.first own.0 own.1 own.2 in
    parted s own.0 first second before.0 too.0 before.2 too.2 (sym before.1 ∙ too.1)
