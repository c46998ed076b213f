-- By the lemma of the law.
use Rattle.setup_access.proofs.FailedTryLemmas.{waits_count}
use Rattle.setup_access.proofs.laws.law_waits_count_failed_tries.Goals as goal

pub returns : goal.returns
returns c = waits_count
