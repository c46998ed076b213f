-- The part of the records that is the check is one before whatever follows.
use Rattle.setup_access.specs.Check.{Check}
use Rattle.access_run.proofs.CheckFronts.{check, framed_checks}
use Rattle.access_run.proofs.laws.law_checks_are_framed.Goals as goal

pub returns : goal.returns
returns c = λ s scopes begun asked. framed_checks (Check s scopes begun asked) (check s scopes begun asked)
