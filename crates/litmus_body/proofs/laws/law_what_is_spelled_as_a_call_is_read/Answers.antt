-- By each rule of calls.
use Rattle.litmus_body.proofs.CallLemmas.{call_is_read}
use Rattle.litmus_body.proofs.laws.law_what_is_spelled_as_a_call_is_read.Goals as goal

pub returns : goal.returns
returns c = λ turns scopes s call rest apart spelled few limit.
    call_is_read s.parameters s.statements turns scopes apart s.names s.repeats spelled few limit
