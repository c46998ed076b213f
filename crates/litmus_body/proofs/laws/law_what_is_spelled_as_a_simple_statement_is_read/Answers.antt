-- By each rule of simple statements.
use Rattle.litmus_body.proofs.SimpleComplete.{simple_is_read}
use Rattle.litmus_body.proofs.laws.law_what_is_spelled_as_a_simple_statement_is_read.Goals as goal

pub returns : goal.returns
returns c = λ p counters s x rest later are apart differ ends limit spelled.
    simple_is_read s.parameters s.statements p apart counters s.repeats are differ ends limit spelled
