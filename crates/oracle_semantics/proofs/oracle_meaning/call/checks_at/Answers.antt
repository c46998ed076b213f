-- The access is the one that begins now.
use Rattle.oracle_semantics.proofs.oracle_meaning.call.checks_at.Goals as goal

pub returns-clause-means : goal.returns-clause-means
returns-clause-means c = λ s is. rw (c.in_ok-access.ensures s is) at c.checks.ensures.comes
