-- Each field is one of the headline of the list.
use Rattle.oracle_soundness.proofs.oracle_headline_laws.Decided.{has_headline}
use Rattle.oracle_soundness.proofs.oracle_headline_laws.law_headlines_are_decided.Goals as goal

pub returns : goal.returns
returns c = λ run records list headline accesses holds ended all_ended. has_headline list accesses ended headline holds all_ended
