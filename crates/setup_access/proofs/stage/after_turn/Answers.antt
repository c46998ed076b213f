-- A check that is over gives nothing more.
use Rattle.std.proofs.Common.{false, true}
use Rattle.setup_access.proofs.PassLemmas.{through}
use Rattle.setup_access.proofs.StageLemmas.{over_left}
use Rattle.setup_access.proofs.stage.after_turn.Goals as goal

pub returns-in-Settled-clause-left : goal.returns-in-Settled-clause-left
returns-in-Settled-clause-left c = λ s asked records passes. rw c.in-Settled.is
    (through (over_left s c.args.scopes.now asked records passes true c.args.role) (c.after_check.ensures.left s asked records passes))

pub returns-in-Unsettled-clause-left : goal.returns-in-Unsettled-clause-left
returns-in-Unsettled-clause-left c = λ s asked records passes. rw c.in-Unsettled.is
    (through (over_left s c.args.scopes.now asked records passes false c.args.role) (c.after_check-in-Unsettled.ensures.left s asked records passes))
