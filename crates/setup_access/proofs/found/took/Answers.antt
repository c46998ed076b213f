-- What is left of the taking is what is left of the check.
use Rattle.std.proofs.Common.{◌∷◌}
use Rattle.setup_access.specs.Parts.{found_step, made}
use Rattle.setup_access.specs.declared.pass.Pass.TheVariants as passes
use Rattle.setup_access.proofs.PassLemmas.{going_left, settled_left, taking_goes, taking_over, through}
use Rattle.setup_access.proofs.found.took.Goals as goal

pub returns-in-Going-clause-left : goal.returns-in-Going-clause-left
returns-in-Going-clause-left c = λ s asked given later rest.
    through (taking_goes s c.args.begun.now asked later given rest c.args.found c.in-Going.found (made s.task (found_step c.args.begun.now.access c.args.found) c.args.answer ∷ later)
    (λ outcome. c.in-Going.ensures.left s outcome later rest))
    (going_left s c.args.begun.now asked later given rest c.going.result (passes.Found c.in-Going.found) c.going.ensures)

pub returns-in-Over-clause-left : goal.returns-in-Over-clause-left
returns-in-Over-clause-left c = λ s asked given later rest.
    through (taking_over s c.args.begun.now asked later given rest c.args.found (made s.task (found_step c.args.begun.now.access c.args.found) c.args.answer ∷ later) c.in-Over.outcome
    (λ outcome. c.in-Over.ensures.left s outcome later rest))
    (settled_left s c.args.begun.now asked later given rest c.over.result c.in-Over.outcome c.over.ensures)
