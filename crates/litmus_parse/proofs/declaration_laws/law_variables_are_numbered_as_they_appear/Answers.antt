-- By whether it has a number.
use Rattle.litmus_parse.proofs.Numbers.{number_read, number_spelled}
use Rattle.litmus_parse.proofs.declaration_laws.law_variables_are_numbered_as_they_appear.Goals as goal

pub returns : goal.returns
returns c = λ names later name number differ few.
    ((λ spelled. number_read name number names later differ spelled), (λ e. number_spelled names name (number, later) few e))
