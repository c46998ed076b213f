-- The step is that of the part.
use Rattle.setup_access.proofs.pass.Pass.next.Goals as goal

pub returns-in-Find : goal.returns-in-Find
returns-in-Find c = λ sites. rw c.in-Find.is (c.next.ensures sites)

pub returns-in-Setup : goal.returns-in-Setup
returns-in-Setup c = λ sites. rw c.in-Setup.is (c.next-in-Setup.ensures sites)
