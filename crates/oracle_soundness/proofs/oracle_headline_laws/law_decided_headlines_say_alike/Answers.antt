-- Each field is one of the headline that was decided.
use Rattle.oracle_soundness.proofs.oracle_headline_laws.Decided.{says_alike}
use Rattle.oracle_soundness.proofs.oracle_headline_laws.law_decided_headlines_say_alike.Goals as goal

pub returns : goal.returns
returns c = λ run records list accesses ended headline. says_alike list accesses ended headline
