-- By the lemmas of the law.
use Rattle.setup_access.proofs.FallLemmas.{last_come, stamped_come}
use Rattle.setup_access.proofs.laws.law_outcomes_fall_at_records.Goals as goal

pub returns-clause-check : goal.returns-clause-check
returns-clause-check c = λ s scopes begun asked records passes rest h. (stamped_come s scopes begun asked records passes rest h.2).0

pub returns-clause-close : goal.returns-clause-close
returns-clause-close c = λ s scope silenced asked records passes rest h. (last_come s scope silenced asked records passes rest h.1).0
