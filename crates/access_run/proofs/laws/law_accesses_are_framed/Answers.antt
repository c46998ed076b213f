-- The part of the records that is the access is one before whatever follows.
use Rattle.access_run.specs.Access.{MakesAccess}
use Rattle.access_run.proofs.CheckFronts.{framed_checks, makes_access}
use Rattle.access_run.proofs.laws.law_accesses_are_framed.Goals as goal

pub returns : goal.returns
returns c = λ s scopes begun asked operation effect.
    framed_checks (λ records passes rest. MakesAccess s scopes begun asked operation records passes effect rest)
    (makes_access s scopes begun asked operation effect)
