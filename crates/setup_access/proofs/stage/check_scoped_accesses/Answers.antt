-- The first assertion that isn't silenced is checked.
use Rattle.setup_access.proofs.PassLemmas.{through}
use Rattle.setup_access.proofs.StageLemmas.{at_number, not_true, scope_left}
use Rattle.setup_access.proofs.stage.check_scoped_accesses.Goals as goal

pub returns-then-not-begun-clause-left : goal.returns-then-not-begun-clause-left
returns-then-not-begun-clause-left c = λ s asked records passes.
    let begun = c.index-scopes-number.result in
    through (c.loop-number.invariant s asked records passes)
    (rw c.check_of.ensures (scope_left s c.args.scopes.now asked records passes c.loop-number.number begun
    (at_number c.args.scopes.now c.loop-number.number begun c.loop-number-test.true c.index-scopes-number.is) (not_true _ c.if-not-begun.true)))
