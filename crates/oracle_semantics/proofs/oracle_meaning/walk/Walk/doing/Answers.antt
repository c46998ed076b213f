-- What has happened is no read.
use Rattle.oracle_semantics.proofs.oracle_meaning.WalkLemmas.{takes_none}
use Rattle.oracle_semantics.proofs.oracle_meaning.walk.Walk.doing.Goals as goal

pub returns-clause-takes : goal.returns-clause-takes
returns-clause-takes c =
    rw c.in_ok-push.ensures.items (takes_none c.args.self.did.items c.args.happening c.args.self.values.items c.requires)
