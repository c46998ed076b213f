-- Operator by operator.
use Rattle.print_roundtrip.proofs.printed_texts.Expressions.{expression_printed}
use Rattle.print_roundtrip.proofs.printed_texts.laws.law_printed_expressions_are_spelled.Goals as goal

pub returns : goal.returns
returns c = λ parameters variables registers before after depth there symbols behind rest e named grown spelled nests.
    expression_printed parameters variables registers named spelled (record { keeps = grown }) depth nests rest
