-- By what each word asks between its parentheses.
use Rattle.litmus_body.proofs.CallLemmas.{call_reads}
use Rattle.litmus_body.proofs.laws.law_what_is_read_as_a_call_is_spelled.Goals as goal

pub returns : goal.returns
returns c = λ turns scopes w s x few next e. call_reads turns scopes w s x few next e
