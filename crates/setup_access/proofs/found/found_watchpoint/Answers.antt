-- An access with a mask is over, and another tries to take the watchpoint.
use Rattle.std.proofs.Common.{◌∙◌, ap, is_some, sym}
use Rattle.setup_access.specs.declared.found.Found.TheVariants.{TryConsume}
use Rattle.setup_access.specs.declared.outcome.Outcome.TheVariants.{Nothing}
use Rattle.setup_access.specs.declared.pass.Pass.TheVariants as passes
use Rattle.setup_access.proofs.FallLemmas.{masked_falls}
use Rattle.setup_access.proofs.PassLemmas.{going_left, masked_left, settled_left, through, unmasked_left}
use Rattle.setup_access.proofs.found.found_watchpoint.Goals as goal

pub returns-then-is_some-clause-left : goal.returns-then-is_some-clause-left
returns-then-is_some-clause-left c = λ s asked given later rest.
    through (masked_left s c.args.begun.now asked later given rest c.args.found (sym (ap is_some c.mask.ensures) ∙ (sym c.is_some.ensures ∙ c.if-is_some.true)))
    (settled_left s c.args.begun.now asked later given rest c.over.result Nothing c.over.ensures)

pub returns-clause-left : goal.returns-clause-left
returns-clause-left c = λ s asked given later rest.
    through (unmasked_left s c.args.begun.now asked later given rest c.args.found (sym (ap is_some c.mask.ensures) ∙ (sym c.is_some.ensures ∙ c.if-is_some.false)))
    (going_left s c.args.begun.now asked later given rest c.going.result (passes.Found (TryConsume c.args.found)) c.going.ensures)

pub returns-then-is_some-clause-falls : goal.returns-then-is_some-clause-falls
returns-then-is_some-clause-falls c = λ s last looked.
    let masked = sym (ap is_some c.mask.ensures) ∙ (sym c.is_some.ensures ∙ c.if-is_some.true) in
    rw c.over.ensures (masked_falls s c.args.begun.now.access c.args.found last masked looked)
