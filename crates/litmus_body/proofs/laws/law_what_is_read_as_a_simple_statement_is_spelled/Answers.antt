-- By how it begins.
use Rattle.litmus_body.proofs.SimpleSound.{simple_reads}
use Rattle.litmus_body.proofs.laws.law_what_is_read_as_a_simple_statement_is_spelled.Goals as goal

pub returns : goal.returns
returns c = λ p counters s x are deep within e. simple_reads p counters s x are deep within e
