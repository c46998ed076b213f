-- The access is the one that begins now, to the bytes of the variable.
use Rattle.oracle_semantics.proofs.oracle_meaning.store.writes_to.Goals as goal

pub returns-clause-means : goal.returns-clause-means
returns-clause-means c = λ s is. rw (c.in_ok-access.ensures s is, c.bytes_in.ensures s is) at c.writes.ensures.comes
