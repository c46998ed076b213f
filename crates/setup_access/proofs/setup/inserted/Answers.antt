-- The word stands at the index that was tried.
use Rattle.std.proofs.Common.{ap, ℕ}
use Rattle.setup_access.specs.declared.setup.Setup.TheVariants.{Name}
use Rattle.setup_access.specs.declared.setup.Watching.TheVariants.{Going}
use Rattle.setup_access.proofs.setup.inserted.Goals as goal

pub returns-then-accepted-clause-accepted : goal.returns-then-accepted-clause-accepted
returns-then-accepted-clause-accepted c = λ sites accepted. ap (λ (index : ℕ). Going (Name index)) (c.index_of-index.ensures sites)
