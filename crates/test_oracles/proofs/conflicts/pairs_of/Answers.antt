-- The program is made ready under the settings that were passed.
use Rattle.test_oracles.proofs.conflicts.pairs_of.Goals as goal

pub conflicting_pairs-pairs-requires-clause-ready : goal.conflicting_pairs-pairs-requires-clause-ready
conflicting_pairs-pairs-requires-clause-ready c = (c.args.settings.now, c.in_ok-prepared.ensures.prepared)
