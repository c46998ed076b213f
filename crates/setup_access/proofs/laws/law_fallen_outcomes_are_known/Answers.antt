-- What has fallen is told from what falls later by the records that follow.
use Rattle.std.proofs.Common.{◌∙◌, sym}
use Rattle.setup_access.proofs.FallenUnique.{parted}
use Rattle.setup_access.proofs.laws.law_fallen_outcomes_are_known.Goals as goal

pub returns : goal.returns
returns c = λ s scopes doing asked records later passes first second does one other.
    let before = one.first later passes does in
    let too = other.first later passes does in
    parted s later first second before.0 too.0 before.2 too.2 (sym before.1 ∙ too.1)
