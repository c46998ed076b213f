-- The part of the records that is the close is one before whatever follows.
use Rattle.setup_access.specs.Check.{Close}
use Rattle.access_run.proofs.CheckFronts.{close, framed_checks}
use Rattle.access_run.proofs.laws.law_closes_are_framed.Goals as goal

pub returns : goal.returns
returns c = λ s scope silenced asked. framed_checks (Close s scope silenced asked) (close s scope silenced asked)
